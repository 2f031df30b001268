use Rattle.std.proofs.Common.{arith}
use Rattle.id_tree.proofs.Preorder.{inside_pair, one_of_two, second_half, behind_halves}
use Rattle.id_tree.proofs.marks.+sum_into.Goals as goal

pub sum_into-requires : goal.sum_into-requires
sum_into-requires t c = (
  omega arith,
  (
    one_of_two _ (inside_pair _ _ c.split_at.ensures.back (omega arith) c.in-Pair-Pair.is-0 c.requires.left),
    one_of_two _ (inside_pair _ _ c.split_at-2.ensures.back (omega arith) c.in-Pair-Pair.is-1 c.requires.right),
  ),
)

pub sum_into-requires-in-Pair-Pair : goal.sum_into-requires-in-Pair-Pair
sum_into-requires-in-Pair-Pair t c =
    let left = c.in_ok-left_half-in-Pair-Pair.ensures.behind_left in
    let right = c.in_ok-left_half-in-Pair-Pair.ensures.behind_right in (
      omega (arith, left.shorter),
      (
        second_half _ _ (inside_pair _ _ c.split_at.ensures.back (omega arith) c.in-Pair-Pair.is-0 c.requires.left) left,
        second_half _ _ (inside_pair _ _ c.split_at-2.ensures.back (omega arith) c.in-Pair-Pair.is-1 c.requires.right) right,
      ),
    )

pub returns-in_ok-rests-in-Pair-Pair-clause-behind_left : goal.returns-in_ok-rests-in-Pair-Pair-clause-behind_left
returns-in_ok-rests-in-Pair-Pair-clause-behind_left t c = behind_halves _ _ _ _ c.split_at.ensures.back (omega arith) c.in-Pair-Pair.is-0 c.in_ok-left_half-in-Pair-Pair.ensures.behind_left c.in_ok-rests-in-Pair-Pair.ensures.behind_left

pub returns-in_ok-rests-in-Pair-Pair-clause-behind_right : goal.returns-in_ok-rests-in-Pair-Pair-clause-behind_right
returns-in_ok-rests-in-Pair-Pair-clause-behind_right t c = behind_halves _ _ _ _ c.split_at-2.ensures.back (omega arith) c.in-Pair-Pair.is-1 c.in_ok-left_half-in-Pair-Pair.ensures.behind_right c.in_ok-rests-in-Pair-Pair.ensures.behind_right
