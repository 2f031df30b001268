use Rattle.std.proofs.Common.{length}
use Rattle.chains.proofs.LookUps.{AreKnownBefore}
use Rattle.chains.proofs.failed.first_unknown.Given as goal

abbrev pub invariant-loop-name : goal.invariant-loop-name
invariant-loop-name l = AreKnownBefore l.chains.accepted l.names l.left

abbrev pub decreases-loop-name : goal.decreases-loop-name
decreases-loop-name l = length l.left
