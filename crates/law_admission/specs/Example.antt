-- A history with every kind of step whose reports are all accepted: so the law speaks of something.
use Rattle.std.specs.Prelude.{List, [], ◌∷◌, drop}
use Rattle.id_tree.specs.IdTree.{One}
use Rattle.event_tree.specs.EventTree.{Leaf}
use Rattle.report_line.specs.declared.report.ReportKind.TheVariants as report_kinds
use Rattle.report_line.specs.declared.report.Report.{Report}
use Rattle.report_line.specs.declared.report.Report.TheVariants.{Begin}
use Rattle.report_line.specs.declared.step.StepKind.TheVariants.{Retire}
use Rattle.report_line.specs.histories.History.{History}
use Rattle.law_histories.specs.Example.{a, b, c, left, right, halves, act, told, forked, every_step}

-- the history with every kind of step, but its last step retires into a process that is born
abbrev pub reported_steps : History
reported_steps = act c (Retire a) right (halves 7 0 1) ∷ drop 1 every_step

-- what is handed over of it
abbrev pub its_reports : List Report
its_reports =
    Begin a
    ∷ told a 1 One (Leaf 1) (forked b)
    ∷ told b 1 right (halves 1 0 1) report_kinds.Check
    ∷ told a 2 left (halves 3 2 0) report_kinds.Present
    ∷ told b 2 right (halves 1 0 4) (report_kinds.Retire a)
    ∷ told a 3 One (halves 5 1 0) (report_kinds.Absorb b)
    ∷ told a 4 One (Leaf 7) (forked c)
    ∷ told a 5 left (halves 7 1 0) report_kinds.Check
    ∷ told c 1 right (halves 7 0 1) (report_kinds.Retire a)
    ∷ []
