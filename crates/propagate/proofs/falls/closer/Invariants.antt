use Rattle.std.proofs.Common.{◌≤◌}
use Rattle.propagate.specs.working.Brackets.{IsBracket}
use Rattle.propagate.proofs.falls.closer.Given as goal

abbrev pub invariant-loop-high : goal.invariant-loop-high
invariant-loop-high l = IsBracket l.chains.accepted l.stage.fell.items l.stage.cut.items l.process (record { low = l.wide.low; high = l.high }) × (l.high ≤ l.wide.high)

abbrev pub decreases-loop-high : goal.decreases-loop-high
decreases-loop-high l = l.high
