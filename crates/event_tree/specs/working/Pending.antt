-- Pairs of trees that are still to be compared.
use Rattle.std.specs.Prelude.{◌≡◌, ℕ, zero, suc, ◌+◌, ◌<◌, ◌≤◌, ◌&&◌, max, Bool, true, ⊤, List, [], ◌∷◌, length, slice_index_or}
use Rattle.id_tree.specs.IdTree.{IdTree, Pair}
use Rattle.id_tree.specs.NormalForm.{depth}
use Rattle.event_tree.specs.EventTree.{EventTree}
use Rattle.event_tree.specs.NormalForm.{IsNormal, greatest}
use Rattle.event_tree.specs.working.Entries.{first, later}
use Rattle.event_tree.specs.Size.{size}
use Rattle.event_tree.specs.working.Tests.{is_below_from, exceeds_from}
use Rattle.event_tree.specs.declared.order.Bases.{Bases}

abbrev pub bases_at : ℕ → ℕ → Bases
bases_at x y = record { one = x; other = y }

-- the bases that wait on a stack of so many, the last one first
abbrev pub waiting : List Bases → ℕ → List Bases
waiting stack zero = []
waiting stack (suc n) = slice_index_or stack n (bases_at 0 0) ∷ waiting stack n

-- each tree of the first ones, above its base, is at or below its counterpart
abbrev pub are_below : List Bases → List EventTree → List EventTree → Bool
are_below [] ts us = true
are_below (b ∷ bs) ts us = is_below_from b.one (first ts) b.other (first us) && are_below bs (later ts) (later us)

-- there are as many trees as bases, with no value above the limit, and the others are normal
abbrev pub ArePairs : List Bases → List EventTree → List EventTree → Type 0
ArePairs [] [] [] = ⊤
ArePairs (b ∷ bs) (t ∷ ts) (u ∷ us) = (b.one + greatest t < 4294967296) × (b.other + greatest u < 4294967296) × IsNormal u × ArePairs bs ts us
ArePairs _ _ _ = ⊥

-- how many nodes and leaves they have
abbrev pub sizes : List EventTree → ℕ
sizes [] = 0
sizes (t ∷ ts) = size t + sizes ts

-- what is left to compare, above these bases and those that wait, comes to this answer; with the nodes that are open it is no more than
-- the whole
pub record IsLeft (b : Bases) (stack : List Bases) (n : ℕ) (ts us : List EventTree) (answer : Bool) (whole : ℕ) : Type 0 where
  pub pairs : ArePairs (b ∷ waiting stack n) ts us
  pub same : answer ≡ are_below (b ∷ waiting stack n) ts us
  pub long : length stack ≡ 16
  pub room : n ≤ 16
  pub within : sizes ts + n ≤ whole

-- on the halves of an id the first tree exceeds the other exactly where this answer says so, and they are no deeper than this
pub record IsWayDown (l r : IdTree) (x : ℕ) (e : EventTree) (y : ℕ) (f : EventTree) (answer : Bool) (deepest : ℕ) : Type 0 where
  pub same : answer ≡ exceeds_from (Pair l r) x e y f
  pub fits : x + greatest e < 4294967296
  pub other_fits : y + greatest f < 4294967296
  pub normal : IsNormal f
  pub within : max (depth l) (depth r) ≤ deepest
