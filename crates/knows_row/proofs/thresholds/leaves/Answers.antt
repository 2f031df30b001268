use Rattle.std.proofs.Common.{refl, arith}
use Rattle.std.specs.Prelude.{slice_index}
use Rattle.knows_row.proofs.Thresholding.{thresholds_more, thresholds_all}
use Rattle.knows_row.proofs.thresholds.leaves.Goals as goal

pub loop-i-preserved : goal.loop-i-preserved
loop-i-preserved c = rw c.in_ok-push.ensures.items
    (thresholds_more c.args.chains.now.accepted c.args.cut.now c.args.before.now c.args.fell.now c.loop-i.i (slice_index c.args.fell.now c.loop-i.i) c.loop-i.trees.items c.in_ok-tree.tree c.loop-i.invariant refl c.in_ok-tree.ensures)

pub returns : goal.returns
returns c =
    thresholds_all c.args.chains.now.accepted c.args.cut.now c.args.before.now c.args.fell.now c.loop-i.i c.loop-i.trees.items (omega (arith, c.loop-i-test.false, c.loop-i.auto.i-end)) c.loop-i.invariant
