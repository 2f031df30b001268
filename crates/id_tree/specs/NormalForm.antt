-- The normal form of ids, and their depth.
use Rattle.std.specs.Prelude.{◌≡◌, ℕ, ◌+◌, ◌≤◌, max, Bool, true, false, ⊤}
use Rattle.id_tree.specs.IdTree.{IdTree, Zero, One, Pair}

-- both are nothing, or both everything
abbrev pub are_equal_leaves : IdTree → IdTree → Bool
are_equal_leaves Zero Zero = true
are_equal_leaves One One = true
are_equal_leaves _ _ = false

-- no pair at any level is of two equal leaves
abbrev pub IsNormal : IdTree → Type 0
IsNormal Zero = ⊤
IsNormal One = ⊤
IsNormal (Pair l r) = IsNormal l × IsNormal r × (are_equal_leaves l r ≡ false)

-- how many pairs are around the deepest leaf
abbrev pub depth : IdTree → ℕ
depth Zero = 0
depth One = 0
depth (Pair l r) = max (depth l) (depth r) + 1

-- no id, and no event tree, is deeper
abbrev pub depth_limit : ℕ
depth_limit = 40

-- what holds of each id: it is in normal form, and no deeper than the limit
pub record IsId (i : IdTree) : Type 0 where
  pub normal : IsNormal i
  pub shallow : depth i ≤ depth_limit
