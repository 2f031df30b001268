-- A run with two settlements, and what is current after it: so the laws of runs speak of something.
use Rattle.std.specs.Prelude.{◌≡◌, ◌&&◌, nat_le, [], ◌∷◌}
use Rattle.std.specs.Str.{bytes_eq}
use Rattle.id_tree.specs.IdTree.{One}
use Rattle.event_tree.specs.EventTree.{Leaf}
use Rattle.report_line.specs.declared.report.ReportKind.TheVariants as reported
use Rattle.report_line.specs.declared.report.Report.TheVariants.{Begin}
use Rattle.report_line.specs.declared.step.StepKind.TheVariants.{Work, Check, Present, Fork}
use Rattle.chains.specs.declared.position.Position.TheVariants.{At}
use Rattle.chains.specs.Positions.{before_birth}
use Rattle.law_histories.specs.Example.{a, b, left, right, halves, act, told, forked}
use Rattle.law_histories.specs.Kept.{Cut}
use Rattle.law_lines.specs.Runs.{Run, Made, Accepts, Settles, IsObeyed, current, accepted}

-- the events of a up to its checkpoint
abbrev pub up_to_checkpoint : Cut
up_to_checkpoint e = bytes_eq e.process a && nat_le e.number 1

-- a makes a checkpoint and shows its present state
abbrev pub begun : Run
begun =
    Accepts 0 (told a 2 One (Leaf 2) reported.Present)
    ∷ Made 0 (act a Present One (Leaf 2))
    ∷ Accepts 0 (told a 1 One (Leaf 1) reported.Check)
    ∷ Made 0 (act a Check One (Leaf 1))
    ∷ Accepts 0 (Begin a)
    ∷ []

-- It fails, and its present state is undone; before it has heard of that it works on. Then it goes on from its checkpoint, and
-- forks b, which makes a checkpoint.
abbrev pub once_settled : Run
once_settled =
    Accepts 1 (told b 1 right (halves 2 0 1) reported.Check)
    ∷ Made 1 (act b Check right (halves 2 0 1))
    ∷ Accepts 1 (told a 2 One (Leaf 2) (forked b))
    ∷ Made 1 (act a (Fork b right) left (Leaf 2))
    ∷ Made 0 (act a Work One (Leaf 3))
    ∷ Settles (0 ∷ []) (At 2 ∷ []) up_to_checkpoint
    ∷ begun

-- It fails once more: its fork is behind its last element and is undone, and so b is unborn, though it did not fail. Then a
-- makes a checkpoint.
abbrev pub twice_settled : Run
twice_settled =
    Accepts 2 (told a 2 One (Leaf 2) reported.Check)
    ∷ Made 2 (act a Check One (Leaf 2))
    ∷ Settles (0 ∷ []) (At 2 ∷ before_birth ∷ []) up_to_checkpoint
    ∷ once_settled

abbrev pub TwiceSettledIsObeyed : Type 0
TwiceSettledIsObeyed = IsObeyed a twice_settled

-- the two checkpoints are what is current
abbrev pub CheckpointsAreCurrent : Type 0
CheckpointsAreCurrent = current twice_settled ≡ act a Check One (Leaf 2) ∷ act a Check One (Leaf 1) ∷ []

abbrev pub CheckpointsAreAccepted : Type 0
CheckpointsAreAccepted =
    accepted twice_settled ≡ Begin a ∷ told a 1 One (Leaf 1) reported.Check ∷ told a 2 One (Leaf 2) reported.Check ∷ []
