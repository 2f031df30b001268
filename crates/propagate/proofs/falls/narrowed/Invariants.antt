use Rattle.std.proofs.Common.{◌+◌, ◌≤◌}
use Rattle.propagate.specs.working.Brackets.{IsBracket}
use Rattle.propagate.proofs.falls.narrowed.Given as goal

abbrev pub invariant-loop-below : goal.invariant-loop-below
invariant-loop-below l = IsBracket l.chains.accepted l.stage.fell.items l.stage.cut.items l.process (record { low = l.wide.low; high = l.below + 1 }) × (l.wide.low ≤ l.below)

abbrev pub decreases-loop-below : goal.decreases-loop-below
decreases-loop-below l = l.below
