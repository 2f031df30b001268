use Rattle.chains.specs.Held.{held_of}
use Rattle.script.specs.working.Driving.{TakeTurns}
use Rattle.script.proofs.printing.take_reports.Given as goal

abbrev pub invariant-loop-report : goal.invariant-loop-report
invariant-loop-report l =
    TakeTurns (held_of l.initial.chains) l.yielded (held_of l.chains) ×
    goal.iterator-loop-report.can_next l.report-iterator ×
    goal.iterator-loop-report.is_finite l.report-iterator
