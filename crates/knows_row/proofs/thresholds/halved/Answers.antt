use Rattle.knows_row.proofs.Thresholding.{halved_more}
use Rattle.std.proofs.Common.{arith}
use Rattle.knows_row.proofs.thresholds.halved.Goals as goal

pub loop-i-preserved : goal.loop-i-preserved
loop-i-preserved c = rw c.in_ok-push.ensures.items
    (halved_more c.args.row.now c.loop-i.trees.items c.loop-i.i c.in_ok-tree.tree (omega (arith, c.loop-i-test.true, c.len-in-loop-i.ensures)) c.loop-i.invariant c.in_ok-tree.ensures)
