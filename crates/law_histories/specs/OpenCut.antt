-- A cut that is not closed: it keeps a receive without its send, and what it keeps is not lawful.
use Rattle.std.specs.Prelude.{◌≡◌, nat_le, [], ◌∷◌}
use Rattle.report_line.specs.declared.step.StepKind.TheVariants.{Send, Receive}
use Rattle.report_line.specs.histories.History.{History}
use Rattle.report_line.specs.histories.Lawful.{IsLawful}
use Rattle.event_tree.specs.EventTree.{Leaf}
use Rattle.id_tree.specs.IdTree.{One}
use Rattle.law_histories.specs.Example.{a, m, act}
use Rattle.law_histories.specs.Kept.{Cut, IsClosed, kept}

-- a sends itself a message and receives it
abbrev pub sent_and_received : History
sent_and_received = act a (Receive m) One (Leaf 2) ∷ act a (Send m) One (Leaf 1) ∷ []

-- the receive without the send
abbrev pub receive_alone : Cut
receive_alone e = nat_le 2 e.number

abbrev pub OpenCutIsRefused : Type 0
OpenCutIsRefused =
    (kept receive_alone sent_and_received ≡ act a (Receive m) One (Leaf 2) ∷ []) × (¬ IsLawful a (kept receive_alone sent_and_received))
    × (¬ IsClosed a sent_and_received receive_alone)
