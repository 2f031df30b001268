-- Settled lists that are written out: one of a line that undoes nothing, one of a line that undoes all, and one of a cut that is
-- not stamp-consistent, which does not fold.
use Rattle.std.specs.Prelude.{◌≡◌, List, [], ◌∷◌}
use Rattle.id_tree.specs.IdTree.{One}
use Rattle.event_tree.specs.EventTree.{Leaf}
use Rattle.report_line.specs.declared.report.ReportKind.TheVariants.{Check, Present, Absorb}
use Rattle.report_line.specs.declared.report.Report.{Report}
use Rattle.report_line.specs.declared.report.Report.TheVariants.{Begin}
use Rattle.chains.specs.declared.position.Position.{Position}
use Rattle.chains.specs.declared.position.Position.TheVariants.{At, Retired}
use Rattle.chains.specs.Positions.{before_birth}
use Rattle.chains.specs.Folded.{IsFolded}
use Rattle.law_histories.specs.Example.{a, b, c, left, right, halves, told, forked}
use Rattle.law_lines.specs.Example.{accepted_reports}
use Rattle.law_lines.specs.Settled.{settled}

-- a at its checkpoint, b retired, c at its birth: all is kept
abbrev pub undoes_nothing : List Position
undoes_nothing = At 2 ∷ Retired ∷ At 1 ∷ []

abbrev pub AllIsKept : Type 0
AllIsKept = settled accepted_reports undoes_nothing ≡ accepted_reports

-- a at its birth, b and c unborn: only BEGIN is kept
abbrev pub undoes_all : List Position
undoes_all = At 1 ∷ before_birth ∷ before_birth ∷ []

abbrev pub OnlyBeginIsKept : Type 0
OnlyBeginIsKept = settled accepted_reports undoes_all ≡ Begin a ∷ []

-- a at its checkpoint and b at its own, from before a absorbed it: what is kept has the absorption without the retirement
abbrev pub is_open : List Position
is_open = At 2 ∷ At 2 ∷ At 1 ∷ []

abbrev pub kept_of_open : List Report
kept_of_open =
    Begin a
    ∷ told a 1 One (Leaf 1) (forked b)
    ∷ told b 1 right (halves 1 0 1) Check
    ∷ told a 2 left (halves 3 2 0) Present
    ∷ told a 3 One (halves 5 1 0) (Absorb b)
    ∷ told a 4 One (Leaf 7) (forked c)
    ∷ told a 5 left (halves 7 1 0) Check
    ∷ []

abbrev pub OpenDoesNotFold : Type 0
OpenDoesNotFold = (settled accepted_reports is_open ≡ kept_of_open) × (¬ IsFolded (settled accepted_reports is_open))
