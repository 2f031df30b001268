use Rattle.std.proofs.Common.{length}
use Rattle.chains.proofs.Failing.{IsMarkedBefore}
use Rattle.chains.proofs.failed.which_are_named.Given as goal

abbrev pub invariant-loop-name : goal.invariant-loop-name
invariant-loop-name l = IsMarkedBefore l.chains.accepted l.names l.left l.flags.items

abbrev pub decreases-loop-name : goal.decreases-loop-name
decreases-loop-name l = length l.left
