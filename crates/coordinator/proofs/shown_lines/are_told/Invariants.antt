use Rattle.coordinator.proofs.Certifying.{AreFlaggedTo}
use Rattle.coordinator.proofs.shown_lines.are_told.Given as goal

abbrev pub invariant-loop-process : goal.invariant-loop-process
invariant-loop-process l = AreFlaggedTo l.failed l.named l.process
