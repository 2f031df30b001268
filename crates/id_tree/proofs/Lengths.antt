-- How long the texts of ids are.
use Rattle.std.proofs.Common.{◌≡◌, ◌+◌, ◌*◌, ◌<◌, List, length, drop, get_or, length-append, arith, refl}
use Rattle.id_tree.specs.IdTree.{IdTree, Zero, One, Pair}
use Rattle.id_tree.specs.Size.{size}
use Rattle.id_tree.specs.working.Marks.{first, later, trees_of, tree_of, AreMarksOf, IsBehind}
use Rattle.id_tree.specs.Spelling.{spelling}
use Rattle.id_tree.specs.declared.marks.Mark.{Mark}
use Rattle.id_tree.specs.declared.marks.Mark.TheVariants as marks
use Rattle.id_tree.proofs.Preorder.{starts, length_of_id}

pub pair_length : (l r : IdTree) → length (spelling (Pair l r)) ≡ length (spelling l) + length (spelling r) + 3
pair_length l r = simp length-append (omega arith)

-- a byte less than two for each node and leaf
twice_size : (t : IdTree) → length (spelling t) + 1 ≡ size t * 2
twice_size Zero = omega arith
twice_size One = omega arith
twice_size (Pair l r) = omega (arith, pair_length l r, twice_size l, twice_size r)

pub twice_marks : (i : IdTree) (ms : List Mark) → AreMarksOf i ms → length (spelling i) + 1 ≡ length ms * 2
twice_marks i ms h = omega (arith, twice_size i, length_of_id i ms h)

-- the text of a pair is that of its halves, and three bytes
pub halves_length : (ms inside : List Mark) → inside ≡ drop 1 ms → 0 < length ms → get_or ms 0 marks.Zero ≡ marks.Pair
    → length (spelling (tree_of ms)) ≡ length (spelling (tree_of inside)) + length (spelling (first (later (trees_of inside)))) + 3
halves_length ms inside e h g =
    rw (starts ms inside marks.Pair e h g) (pair_length (tree_of inside) (first (later (trees_of inside))))

pub second_length : (inside right : List Mark) → IsBehind inside right → length (spelling (first (later (trees_of inside)))) ≡ length (spelling (tree_of right))
second_length inside right b = rw b.trees refl
