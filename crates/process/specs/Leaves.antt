-- Ids of one leaf, and ids of which a leaf can be given away.
use Rattle.std.specs.Prelude.{◌⊎◌, ℕ, zero, suc, ◌+◌, ◌<◌, ◌≤◌, true, false, [], ◌∷◌, length, ⊤}
use Rattle.id_tree.specs.IdTree.{IdTree, Zero, One, Pair}
use Rattle.id_tree.specs.NormalForm.{depth_limit}
use Rattle.id_tree.specs.OneWay.{id_of_way}
use Rattle.id_tree.specs.Points.{Point, Covers}

-- the id owns one leaf, of this depth
abbrev pub IsLeafAt : ℕ → IdTree → Type 0
IsLeafAt zero One = ⊤
IsLeafAt (suc d) (Pair l Zero) = IsLeafAt d l
IsLeafAt (suc d) (Pair Zero r) = IsLeafAt d r
IsLeafAt _ _ = ⊥

-- the id has a leaf that is no deeper than this
abbrev pub HasLeafWithin : IdTree → ℕ → Type 0
HasLeafWithin Zero d = ⊥
HasLeafWithin One d = ⊤
HasLeafWithin (Pair l r) zero = ⊥
HasLeafWithin (Pair l r) (suc d) = HasLeafWithin l d ⊎ HasLeafWithin r d

-- A leaf of this depth can be given away, and something is kept: some leaf is no deeper, and the id is not that one leaf.
abbrev pub HasRoomFor : IdTree → ℕ → Type 0
HasRoomFor i depth = (depth < depth_limit + 1) × HasLeafWithin i depth × ¬ IsLeafAt depth i

-- a leaf of the id stands at the end of this way
abbrev pub HasLeafThere : IdTree → Point → Type 0
HasLeafThere Zero p = ⊥
HasLeafThere One [] = ⊤
HasLeafThere One (b ∷ p) = ⊥
HasLeafThere (Pair l r) [] = ⊥
HasLeafThere (Pair l r) (false ∷ p) = HasLeafThere l p
HasLeafThere (Pair l r) (true ∷ p) = HasLeafThere r p

-- What is given lies in a leaf of the id that is no deeper than this, and each leaf within that depth is at most as deep.
pub record IsFromDeepest (i : IdTree) (d : ℕ) (given : IdTree) : Type 0 where
  pub way : Point
  pub leaf : HasLeafThere i way
  pub within : length way ≤ d
  pub deepest : (p : Point) → HasLeafThere i p → length p ≤ d → length p ≤ length way
  pub part : Covers (id_of_way way) given
