use Rattle.std.proofs.Common.{◌<◌, length, arith}
use Rattle.std.proofs.lemmas.Bool.{both_ways}
use Rattle.id_tree.proofs.Preorder.{has_marks}
use Rattle.id_tree.proofs.Shapes.{IsPair, left_half, right_half, only_left, both_halves}
use Rattle.id_tree.proofs.parts.halves_of.Goals as goal

pub bounds-right_half-0 : goal.bounds-right_half-0
bounds-right_half-0 c =
    let pair : IsPair c.args.marks.now c.split_at.result.1.now c.split_first_tree.result.1.now = record { whole = c.requires.whole; pair = c.requires.pair; begins = c.split_at.ensures.back; behind = c.split_first_tree.ensures.behind } in
    let some : 0 < length c.split_first_tree.result.1.now = has_marks 1 _ (omega arith) (right_half _ _ _ pair) in
    omega arith

pub returns-then-is_same-2 : goal.returns-then-is_same-2
returns-then-is_same-2 c =
    let pair : IsPair c.args.marks.now c.split_at.result.1.now c.split_first_tree.result.1.now = record { whole = c.requires.whole; pair = c.requires.pair; begins = c.split_at.ensures.back; behind = c.split_first_tree.ensures.behind } in
    let all : 0 < length c.args.marks.now = has_marks 1 _ (omega arith) c.requires.whole in
    only_left _ _ _ pair (omega arith) (λ e. both_ways _ c.if-is_same.false (c.is_same.ensures.1 e)) (c.is_same-else-is_same.ensures.0 c.if-is_same-2.true)

pub returns-else-is_same-2 : goal.returns-else-is_same-2
returns-else-is_same-2 c =
    let pair : IsPair c.args.marks.now c.split_at.result.1.now c.split_first_tree.result.1.now = record { whole = c.requires.whole; pair = c.requires.pair; begins = c.split_at.ensures.back; behind = c.split_first_tree.ensures.behind } in
    both_halves _ _ _ _ _ pair (c.split_first_tree.ensures.first (left_half _ _ _ pair)) (c.split_first_tree-else-is_same-2.ensures.first (right_half _ _ _ pair)) (λ e. both_ways _ c.if-is_same.false (c.is_same.ensures.1 e)) (λ e. both_ways _ c.if-is_same-2.false (c.is_same-else-is_same.ensures.1 e))
