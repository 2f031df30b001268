use Rattle.std.proofs.Common.{◌-◌, length}
use Rattle.knows_row.proofs.Thresholding.{IsHalvedTo}
use Rattle.knows_row.proofs.thresholds.halved.Given as goal

abbrev pub invariant-loop-i : goal.invariant-loop-i
invariant-loop-i l = IsHalvedTo l.row l.trees.items l.i

abbrev pub decreases-loop-i : goal.decreases-loop-i
decreases-loop-i l = length l.row - l.i
