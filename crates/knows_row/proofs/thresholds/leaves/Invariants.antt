use Rattle.knows_row.proofs.Thresholding.{AreThresholdsTo}
use Rattle.knows_row.proofs.thresholds.leaves.Given as goal

abbrev pub invariant-loop-i : goal.invariant-loop-i
invariant-loop-i l = AreThresholdsTo l.chains.accepted l.cut l.before l.fell l.i l.trees.items
