-- Thresholds: trees that tell at once whether events are beyond one of many elements. The threshold of some elements has at each
-- point the least value of those that own the point, and the limit of values where none does.
use Rattle.std.specs.Prelude.{◌≡◌, ◌⊎◌, ◌↔◌, ℕ, ◌+◌, ◌≤◌, ◌<◌, List, [], length, get_or, slice_index}
use Rattle.id_tree.specs.Points.{Point}
use Rattle.event_tree.specs.EventTree.{EventTree, Leaf}
use Rattle.event_tree.specs.Values.{value_at}
use Rattle.event_tree.specs.NormalForm.{greatest, value_limit}
use Rattle.report_line.specs.declared.report.Report.{Report}
use Rattle.chains.specs.Elements.{elements}
use Rattle.knows_row.specs.working.Beyond.{IsBeyondAt}

-- at some point the events are greater than the tree
abbrev pub Passes : EventTree → EventTree → Type 0
Passes v t = (p : Point) × (value_at t p < value_at v p)

-- the events are beyond one of the elements of q from this one on and below that one
abbrev pub IsBeyondOne : List Report → ℕ → ℕ → ℕ → EventTree → Type 0
IsBeyondOne accepted q from to v = (k : ℕ) × (from ≤ k) × (k < to) × IsBeyondAt v (elements accepted q) k

-- What passes the tree is just what is beyond one of these elements.
abbrev pub IsThreshold : List Report → ℕ → ℕ → ℕ → EventTree → Type 0
IsThreshold accepted q from to t = (v : EventTree) → greatest v ≤ value_limit → Passes v t ↔ IsBeyondOne accepted q from to v

-- the tree of this number in a row
abbrev pub tree_in : List EventTree → ℕ → EventTree
tree_in row i = get_or row i (Leaf 0)

-- thresholds of these processes, one each, of the elements from their ranks in the cut on and below those in the cut before
pub record AreThresholds (accepted : List Report) (cut before fell : List ℕ) (row : List EventTree) : Type 0 where
  pub complete : length row ≡ length fell
  pub each : (i : ℕ) → i < length fell → let q : ℕ = slice_index fell i in IsThreshold accepted q (slice_index cut q) (slice_index before q) (tree_in row i)

-- what passes a tree of one row, and that of the next one, if there is one
abbrev pub PassesTwo : EventTree → List EventTree → ℕ → Type 0
PassesTwo v row i = Passes v (tree_in row i) ⊎ ((i + 1 < length row) × Passes v (tree_in row (i + 1)))

-- each tree of the shorter row stands for two of the longer one, the last one perhaps for one
pub record IsHalved (row half : List EventTree) : Type 0 where
  pub enough : length row ≤ length half + length half
  pub few : length half + length half ≤ length row + 1
  pub each : (i : ℕ) → i < length half → (v : EventTree) → Passes v (tree_in half i) ↔ PassesTwo v row (i + i)

-- each row is the one before, halved; the last one has one tree, or none
pub record AreRows (rows : List (List EventTree)) : Type 0 where
  pub some : 0 < length rows
  pub halved : (r : ℕ) → r + 1 < length rows → IsHalved (get_or rows r []) (get_or rows (r + 1) [])
  pub narrow : (r : ℕ) → r + 1 ≡ length rows → length (get_or rows r []) ≤ 1

-- the events pass one tree of the row
abbrev pub PassesOne : EventTree → List EventTree → Type 0
PassesOne v row = (i : ℕ) × (i < length row) × Passes v (tree_in row i)

-- the first tree of the row that the events pass
pub record IsFirstPassed (v : EventTree) (row : List EventTree) (i : ℕ) : Type 0 where
  pub within : i < length row
  pub passes : Passes v (tree_in row i)
  pub first : (j : ℕ) → j < i → ¬ Passes v (tree_in row j)

-- the rows over the thresholds of the processes that fell
pub record AreThresholdsOf (accepted : List Report) (cut before fell : List ℕ) (rows : List (List EventTree)) : Type 0 where
  pub rows_of : AreRows rows
  pub leaves : AreThresholds accepted cut before fell (get_or rows 0 [])
