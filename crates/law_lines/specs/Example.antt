-- An accepted list with every kind of report, of the history with every kind of step: so the laws speak of something.
use Rattle.std.specs.Prelude.{ℕ, List, [], ◌∷◌}
use Rattle.id_tree.specs.IdTree.{IdTree, One}
use Rattle.event_tree.specs.EventTree.{EventTree, Leaf}
use Rattle.report_line.specs.declared.report.ReportKind.{ReportKind}
use Rattle.report_line.specs.declared.report.ReportKind.TheVariants.{Check, Present, Fork, Retire, Absorb}
use Rattle.report_line.specs.declared.report.Report.{Report}
use Rattle.report_line.specs.declared.report.Report.TheVariants.{Begin, Numbered}
use Rattle.report_line.specs.histories.History.{Name}
use Rattle.law_histories.specs.Example.{a, b, c, left, right, halves, told, forked}

-- the reports of the history but the last one, as they are accepted
abbrev pub accepted_reports : List Report
accepted_reports =
    Begin a
    ∷ told a 1 One (Leaf 1) (forked b)
    ∷ told b 1 right (halves 1 0 1) Check
    ∷ told a 2 left (halves 3 2 0) Present
    ∷ told b 2 right (halves 1 0 4) (Retire a)
    ∷ told a 3 One (halves 5 1 0) (Absorb b)
    ∷ told a 4 One (Leaf 7) (forked c)
    ∷ told a 5 left (halves 7 1 0) Check
    ∷ []
