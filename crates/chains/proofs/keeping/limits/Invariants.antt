use Rattle.chains.specs.Positions.{positions_of}
use Rattle.chains.proofs.LineLimits.{AreLimitsTo}
use Rattle.chains.proofs.keeping.limits.Given as goal

abbrev pub invariant-loop-i : goal.invariant-loop-i
invariant-loop-i l = AreLimitsTo l.chains.accepted (positions_of l.line) l.i l.limits.items
