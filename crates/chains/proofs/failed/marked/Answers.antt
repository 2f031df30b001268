use Rattle.std.proofs.Common.{sym, ◌∙◌, arith}
use Rattle.std.proofs.lemmas.Bool.{true≢false}
use Rattle.chains.proofs.Failing.{IsSet, all_listed}
use Rattle.chains.proofs.Listing.{listed_more, listed_other}
use Rattle.chains.proofs.failed.marked.Goals as goal
use Rattle.chains.proofs.failed.marked.Goals.{then-flags-i+in_ok-push, else-flags-i}

pub loop-i-preserved : goal.loop-i-preserved
loop-i-preserved c = elim c.if-flags-i.branch [
  | then-flags-i+in_ok-push w ↦ rw (w.numbers-is, w.in_ok-push.ensures.items) (listed_more (IsSet c.args.flags.now) c.loop-i.i c.loop-i.numbers.items c.loop-i.invariant w.if-flags-i.true)
  | else-flags-i w ↦ rw w.numbers-is (listed_other (IsSet c.args.flags.now) c.loop-i.i c.loop-i.numbers.items c.loop-i.invariant (λ is. true≢false (sym is ∙ w.if-flags-i.false)))
]

pub returns : goal.returns
returns c = all_listed c.args.flags.now c.loop-i.i c.loop-i.numbers.items (omega (arith, c.loop-i-test.false, c.loop-i.auto.i-end)) c.loop-i.invariant
