use Rattle.chains.proofs.Failing.{IsSet}
use Rattle.chains.proofs.Listing.{AreListedTo}
use Rattle.chains.proofs.failed.marked.Given as goal

abbrev pub invariant-loop-i : goal.invariant-loop-i
invariant-loop-i l = AreListedTo (IsSet l.flags) l.i l.numbers.items
