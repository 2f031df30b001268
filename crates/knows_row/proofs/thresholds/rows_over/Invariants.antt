use Rattle.knows_row.proofs.Thresholding.{AreRowsTo}
use Rattle.knows_row.proofs.thresholds.rows_over.Given as goal

abbrev pub invariant-loop-width : goal.invariant-loop-width
invariant-loop-width l = AreRowsTo l.rows.items l.fn.row l.width

abbrev pub decreases-loop-width : goal.decreases-loop-width
decreases-loop-width l = l.width
