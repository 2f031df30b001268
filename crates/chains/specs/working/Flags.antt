-- Working definitions: flags by number.
use Rattle.std.specs.Prelude.{◌≡◌, ◌<◌, ◌↔◌, ℕ, Bool, false, IsTrue, slice_index_or, List, Contains, length}
use Rattle.std.specs.List.Sorted.{IsStrictlyIncreasing}

-- a flag for each number below a count, set for just those among these
pub record AreFlagged (numbers : List ℕ) (count : ℕ) (flags : List Bool) : Type 0 where
  pub complete : length flags ≡ count
  pub just : (p : ℕ) → p < count → (IsTrue (slice_index_or flags p false) ↔ Contains numbers p)

-- the places of just the flags that are set, in order
pub record AreNumbersOf (flags : List Bool) (numbers : List ℕ) : Type 0 where
  pub in_order : IsStrictlyIncreasing numbers
  pub just_set : (p : ℕ) → (Contains numbers p ↔ ((p < length flags) × IsTrue (slice_index_or flags p false)))
