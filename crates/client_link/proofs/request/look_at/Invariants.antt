use Rattle.std.proofs.Common.{◌≡◌, length}
use Rattle.client_link.specs.Requests.{look}
use Rattle.client_link.proofs.request.look_at.Given as goal

abbrev pub invariant-loop-wanted : goal.invariant-loop-wanted
invariant-loop-wanted l = look l.bytes l.word ≡ look l.rest l.left

abbrev pub decreases-loop-wanted : goal.decreases-loop-wanted
decreases-loop-wanted l = length l.left
