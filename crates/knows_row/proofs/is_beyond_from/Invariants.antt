use Rattle.std.proofs.Common.{◌≤◌}
use Rattle.knows_row.proofs.Repeated.{IsLookedAt}
use Rattle.knows_row.proofs.is_beyond_from.Given as goal

abbrev pub invariant-loop-before : goal.invariant-loop-before
invariant-loop-before l = (l.k ≤ l.before) × IsLookedAt l.events l.elements l.k l.before l.id
