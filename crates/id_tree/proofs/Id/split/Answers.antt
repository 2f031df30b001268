use Rattle.std.proofs.Common.{◌≡◌, ◌≤◌, true, arith}
use Rattle.id_tree.specs.NormalForm.{depth_limit}
use Rattle.id_tree.specs.working.Tests.{owns_any}
use Rattle.id_tree.specs.Split.{left_part, right_part, parts_depth}
use Rattle.id_tree.proofs.Preorder.{one_tree, tree_of_preorder}
use Rattle.id_tree.proofs.Splits.{marks_alone, are_of_left, are_of_right, marks_split}
use Rattle.id_tree.proofs.Id.split.Goals as goal

pub parts_fit-requires-clause-whole : goal.parts_fit-requires-clause-whole
parts_fit-requires-clause-whole c = one_tree _ _ c.marks-marks.ensures.are

pub left_into-requires : goal.left_into-requires
left_into-requires c = one_tree _ _ c.marks-marks.ensures.are

pub right_into-requires : goal.right_into-requires
right_into-requires c = one_tree _ _ c.marks-marks.ensures.are

pub invariant_of-result : goal.invariant_of-result
invariant_of-result c =
    let some : owns_any c.args.self.now ≡ true = grind arith in
    let fits : parts_depth c.args.self.now ≤ depth_limit = grind arith in
    are_of_left _ _ c.marks-marks.ensures.are.id some fits (marks_alone left_part _ _ _ _ c.marks-marks.ensures.tree c.new-left.ensures.items c.in_ok-left_into.ensures)

pub invariant_of-result-2 : goal.invariant_of-result-2
invariant_of-result-2 c =
    let some : owns_any c.args.self.now ≡ true = grind arith in
    let fits : parts_depth c.args.self.now ≤ depth_limit = grind arith in
    are_of_right _ _ c.marks-marks.ensures.are.id some fits (marks_alone right_part _ _ _ _ c.marks-marks.ensures.tree c.new-right.ensures.items c.in_ok-right_into.ensures)

pub returns-clause-left : goal.returns-clause-left
returns-clause-left c = tree_of_preorder _ _ (marks_alone left_part _ _ _ _ c.marks-marks.ensures.tree c.new-left.ensures.items c.in_ok-left_into.ensures)

pub returns-clause-right : goal.returns-clause-right
returns-clause-right c = tree_of_preorder _ _ (marks_alone right_part _ _ _ _ c.marks-marks.ensures.tree c.new-right.ensures.items c.in_ok-right_into.ensures)

pub returns-clause-split : goal.returns-clause-split
returns-clause-split c =
    let some : owns_any c.args.self.now ≡ true = grind arith in
    marks_split _ _ _ c.marks-marks.ensures.are.id some
    (marks_alone left_part _ _ _ _ c.marks-marks.ensures.tree c.new-left.ensures.items c.in_ok-left_into.ensures)
    (marks_alone right_part _ _ _ _ c.marks-marks.ensures.tree c.new-right.ensures.items c.in_ok-right_into.ensures)
