-- The text of an id.
use Rattle.std.specs.Prelude.{ℕ, Bool, ◌==◌, nat_le, ◌||◌, ◌&&◌, List, [], ◌∷◌, ◌++◌}
use Rattle.id_tree.specs.IdTree.{IdTree, Zero, One, Pair}

-- 0, 1, or the two halves between parentheses, parted by a comma
abbrev pub spelling : IdTree → List ℕ
spelling Zero = 48 ∷ []
spelling One = 49 ∷ []
spelling (Pair l r) = 40 ∷ (spelling l ++ 44 ∷ (spelling r ++ 41 ∷ []))

-- a byte of the texts of ids and of event trees: `(`, `)`, `,` or a digit
abbrev pub is_tree_byte : ℕ → Bool
is_tree_byte b = b == 40 || b == 41 || b == 44 || (nat_le 48 b && nat_le b 57)
