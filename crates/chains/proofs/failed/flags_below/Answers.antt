use Rattle.chains.proofs.Failing.{flagged_more, flagged_other}
use Rattle.chains.proofs.failed.flags_below.Goals as goal
use Rattle.chains.proofs.failed.flags_below.Goals.{then-number-count, else-number-count}

pub loop-i-preserved : goal.loop-i-preserved
loop-i-preserved c = elim c.if-number-count.branch [
  | then-number-count w ↦ rw w.flags-is (flagged_more c.args.numbers.now c.loop-i.i c.args.count c.loop-i.flags.items c.loop-i.invariant c.loop-i-test.true w.if-number-count.true)
  | else-number-count w ↦ rw w.flags-is (flagged_other c.args.numbers.now c.loop-i.i c.args.count c.loop-i.flags.items c.loop-i.invariant c.loop-i-test.true w.if-number-count.false)
]
