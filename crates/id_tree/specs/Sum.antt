-- The sum of two ids (interval tree clocks 2008): what either owns.
use Rattle.std.specs.Prelude.{if◌then◌else◌}
use Rattle.id_tree.specs.IdTree.{IdTree, Zero, One, Pair}
use Rattle.id_tree.specs.NormalForm.{are_equal_leaves}

-- the pair of two halves, or the leaf that both are
abbrev pub normal_pair : IdTree → IdTree → IdTree
normal_pair l r = if are_equal_leaves l r then l else Pair l r

-- half by half
abbrev pub sum_of : IdTree → IdTree → IdTree
sum_of Zero j = j
sum_of One j = One
sum_of (Pair a b) Zero = Pair a b
sum_of (Pair a b) One = One
sum_of (Pair a b) (Pair c d) = normal_pair (sum_of a c) (sum_of b d)
