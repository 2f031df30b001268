use Rattle.id_tree.proofs.Preorder.{one_tree}
use Rattle.id_tree.proofs.Sums.{are_of_sum, marks_together, sum_marks}
use Rattle.id_tree.proofs.Id.sum.Goals as goal

pub sum_into-requires-clause-left : goal.sum_into-requires-clause-left
sum_into-requires-clause-left c = one_tree _ _ c.marks.ensures.are

pub sum_into-requires-clause-right : goal.sum_into-requires-clause-right
sum_into-requires-clause-right c = one_tree _ _ c.marks-2.ensures.are

pub invariant_of-result : goal.invariant_of-result
invariant_of-result c = are_of_sum _ _ _ c.marks.ensures.are.id c.marks-2.ensures.are.id (sum_marks _ _ _ _ _ _ c.marks.ensures.tree c.marks-2.ensures.tree c.new-marks.ensures.items c.in_ok-sum_into.ensures.sum)

pub returns-clause-sum : goal.returns-clause-sum
returns-clause-sum c = marks_together _ _ _ (sum_marks _ _ _ _ _ _ c.marks.ensures.tree c.marks-2.ensures.tree c.new-marks.ensures.items c.in_ok-sum_into.ensures.sum)
