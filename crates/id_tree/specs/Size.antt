-- How large an id is.
use Rattle.std.specs.Prelude.{ℕ, ◌+◌}
use Rattle.id_tree.specs.IdTree.{IdTree, Zero, One, Pair}

-- the number of its nodes and leaves
abbrev pub size : IdTree → ℕ
size Zero = 1
size One = 1
size (Pair l r) = size l + size r + 1
