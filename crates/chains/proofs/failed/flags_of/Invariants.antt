use Rattle.std.proofs.Common.{length}
use Rattle.chains.proofs.Failing.{AreFoundBefore}
use Rattle.chains.proofs.failed.flags_of.Given as goal

abbrev pub invariant-loop-name : goal.invariant-loop-name
invariant-loop-name l = AreFoundBefore l.chains.accepted l.names l.left l.flags.items

abbrev pub decreases-loop-name : goal.decreases-loop-name
decreases-loop-name l = length l.left
