use Rattle.id_tree.specs.NormalForm.{depth}
use Rattle.id_tree.proofs.together.+is_sum_by.Given as goal

abbrev pub decreases-is_sum_by : goal.decreases-is_sum_by
decreases-is_sum_by l = depth l.left.now
