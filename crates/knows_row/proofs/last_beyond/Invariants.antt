use Rattle.std.proofs.Common.{◌-◌, ◌≤◌}
use Rattle.knows_row.proofs.Looking.{NoneOf}
use Rattle.knows_row.proofs.last_beyond.Given as goal

abbrev pub invariant-loop-found : goal.invariant-loop-found
invariant-loop-found l = record { within : l.found ≤ l.to; none : NoneOf l.events l.elements l.found l.to }

abbrev pub decreases-loop-found : goal.decreases-loop-found
decreases-loop-found l = l.found - l.from
