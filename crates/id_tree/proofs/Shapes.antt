-- Which halves of a pair of marks own something.
use Rattle.std.proofs.Common.{◌≡◌, ◌≢◌, ◌<◌, ◌∙◌, List, length, drop, get_or, ap, arith}
use Rattle.id_tree.specs.IdTree.{Pair}
use Rattle.id_tree.specs.working.Marks.{preorder, tree_of, HasTrees, IsBehind}
use Rattle.id_tree.specs.working.Shape.{IsOnlyLeft, AreBoth}
use Rattle.id_tree.specs.declared.marks.Mark.{Mark}
use Rattle.id_tree.specs.declared.marks.Mark.TheVariants as marks
use Rattle.id_tree.proofs.Preorder.{inside_pair, one_of_two, second_half, has_marks, pair_tree, tree_of_preorder, is_nothing, is_something}

-- a pair of marks, what stands inside of it, and its right half
pub record IsPair (ms inside right : List Mark) : Type 0 where
  pub whole : HasTrees 1 ms
  pub pair : get_or ms 0 marks.Zero ≡ marks.Pair
  pub begins : inside ≡ drop 1 ms
  pub behind : IsBehind inside right

two_halves : (ms inside right : List Mark) → IsPair ms inside right → HasTrees 2 inside
two_halves ms inside right h = inside_pair ms inside h.begins (has_marks 1 ms (omega arith) h.whole) h.pair h.whole

pub right_half : (ms inside right : List Mark) → IsPair ms inside right → HasTrees 1 right
right_half ms inside right h = second_half inside right (two_halves ms inside right h) h.behind

pub left_half : (ms inside right : List Mark) → IsPair ms inside right → HasTrees 1 inside
left_half ms inside right h = one_of_two inside (two_halves ms inside right h)

halves : (ms inside right : List Mark) → IsPair ms inside right → tree_of ms ≡ Pair (tree_of inside) (tree_of right)
halves ms inside right h = pair_tree ms inside right h.begins (has_marks 1 ms (omega arith) h.whole) h.pair h.behind

pub only_left : (ms inside right : List Mark) → IsPair ms inside right → length inside < length ms → get_or inside 0 marks.Zero ≢ marks.Zero → get_or right 0 marks.Zero ≡ marks.Zero → IsOnlyLeft inside ms
only_left ms inside right h s n e = record {
  tree = halves ms inside right h ∙ ap (Pair (tree_of inside)) (is_nothing right e);
  some = is_something inside n;
  whole = left_half ms inside right h;
  shorter = s;
}

pub both_halves : (ms inside right l r : List Mark) → IsPair ms inside right → l ≡ preorder (tree_of inside) → r ≡ preorder (tree_of right) → get_or inside 0 marks.Zero ≢ marks.Zero → get_or right 0 marks.Zero ≢ marks.Zero → AreBoth l r ms
both_halves ms inside right l r h e f m n =
    let left : tree_of l ≡ tree_of inside = tree_of_preorder (tree_of inside) l e in
    let right_tree : tree_of r ≡ tree_of right = tree_of_preorder (tree_of right) r f in
    record {
      tree = rw (left, right_tree) (halves ms inside right h);
      some_left = rw left (is_something inside m);
      some_right = rw right_tree (is_something right n);
      left = rw left e;
      right = rw right_tree f;
    }
