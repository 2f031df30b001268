-- Ids of one leaf, and of which a leaf can be given away, as they are found.
use Rattle.std.specs.Prelude.{◌≡◌, ◌⊎◌, ℕ, zero, suc, ◌+◌, ◌<◌, ◌≤◌, max, length, Option, Some, None, ⊤}
use Rattle.id_tree.specs.IdTree.{IdTree, Zero, One, Pair}
use Rattle.id_tree.specs.Points.{Point}
use Rattle.id_tree.specs.Split.{IsSplit}
use Rattle.process.specs.Leaves.{HasLeafThere, HasLeafWithin, IsFromDeepest, IsLeafAt}

-- the greater of two depths, seen from one level above
abbrev pub above : Option ℕ → Option ℕ → Option ℕ
above None None = None
above (Some l) None = Some (l + 1)
above None (Some r) = Some (r + 1)
above (Some l) (Some r) = Some (max l r + 1)

-- how deep the deepest leaf is that is no deeper than this
abbrev pub deepest_within : IdTree → ℕ → Option ℕ
deepest_within Zero d = None
deepest_within One d = Some 0
deepest_within (Pair l r) zero = None
deepest_within (Pair l r) (suc d) = above (deepest_within l d) (deepest_within r d)

-- how many leaves of this depth are in one of depth 0
abbrev pub cells_of_all : ℕ → ℕ
cells_of_all zero = 1
cells_of_all (suc d) = cells_of_all d + cells_of_all d

-- how many leaves of this depth it owns, where a deeper one counts as one
abbrev pub cells : IdTree → ℕ → ℕ
cells Zero d = 0
cells One d = cells_of_all d
cells (Pair l r) zero = cells l 0 + cells r 0
cells (Pair l r) (suc d) = cells l d + cells r d

-- the first depth is at most the second, where none is less than any
abbrev pub AtMost : Option ℕ → Option ℕ → Type 0
AtMost None b = ⊤
AtMost (Some m) None = ⊥
AtMost (Some m) (Some n) = m ≤ n

-- for each leaf of the rest that is no deeper than this, the part has one that is at least as deep
abbrev pub IsAsDeep : IdTree → IdTree → ℕ → Type 0
IsAsDeep rest part d = (p : Point) → HasLeafThere rest p → length p ≤ d → (q : Point) × HasLeafThere part q × (length q ≤ d) × (length p ≤ length q)

-- the two, of which the last has the deepest leaf that is no deeper
pub record AreInOrder (l r : IdTree) (d : ℕ) (rest part : IdTree) : Type 0 where
  pub leaf : HasLeafWithin part d
  pub deepest : IsAsDeep rest part d
  pub are : ((rest ≡ l) × (part ≡ r)) ⊎ ((rest ≡ r) × (part ≡ l))

-- A part of the id with its deepest leaf that is no deeper, and the rest of it: less than the whole in such leaves.
pub record IsPartedOnce (i : IdTree) (d : ℕ) (rest part : IdTree) : Type 0 where
  pub split : IsSplit i rest part
  pub leaf : HasLeafWithin part d
  pub smaller : cells part d < cells i d
  pub deepest : (given : IdTree) → IsFromDeepest part d given → IsFromDeepest i d given

-- the id is parted into what is kept, and a leaf of just this depth
pub record IsCarved (i : IdTree) (d : ℕ) (kept given : IdTree) : Type 0 where
  pub split : IsSplit i kept given
  pub leaf : IsLeafAt d given
  pub deepest : IsFromDeepest i d given
