-- What a place knows of a process, element by element.
use Rattle.std.specs.Prelude.{◌≡◌, ◌≢◌, ℕ, zero, suc, ◌-◌, ◌≤◌, ◌<◌, List, length, Some}
use Rattle.stamp.specs.declared.stamp.Stamp.{Stamp}
use Rattle.report_line.specs.declared.report.Report.{Report}
use Rattle.chains.specs.declared.position.Place.{Place}
use Rattle.chains.specs.Elements.{element, elements}
use Rattle.chains.specs.Positions.{position_at, place_at, last_rank}
use Rattle.chains.specs.Knowledge.{IsBeyond, Knows}

-- the place is beyond element k of another process
pub record KnowsAt (accepted : List Report) (x : Place) (q k : ℕ) : Type 0 where
  pub other : q ≢ x.process
  pub stamp : Stamp
  pub is_element : element accepted q k ≡ Some stamp
  pub beyond : IsBeyond accepted x stamp

-- one more than the greatest number of which it holds, or 0 where it holds of none
abbrev pub IsPastGreatest : (ℕ → Type 0) → ℕ → Type 0
IsPastGreatest holds zero = (k : ℕ) → ¬ holds k
IsPastGreatest holds (suc k) = holds k × ((j : ℕ) → holds j → j ≤ k)

-- one more than the greatest element of q that the place is beyond, or 0 where there is none or q is its own process
abbrev pub IsNeed : List Report → Place → ℕ → ℕ → Type 0
IsNeed accepted x q need = IsPastGreatest (KnowsAt accepted x q) need

-- Of the elements below `to`, the place is beyond none from `found` on; and where `found` is above `from`, it is beyond the
-- one before.
pub record IsLastKnown (accepted : List Report) (x : Place) (q from to found : ℕ) : Type 0 where
  pub within : found ≤ to
  pub none : (k : ℕ) → found ≤ k → k < to → ¬ KnowsAt accepted x q k
  pub last : from < found → KnowsAt accepted x q (found - 1)

-- by ranks: the place of rank x of p knows q after the position of rank k
abbrev pub KnowsRank : List Report → ℕ → ℕ → ℕ → ℕ → Type 0
KnowsRank accepted p x q k = Knows accepted (place_at accepted p x) q (position_at accepted q k)

-- what holds of the places of accepted reports
pub record AreLawfulPlaces (accepted : List Report) : Type 0 where
  -- nothing is known at rank 0, nor of a process by itself, nor after its last element
  pub unborn : (p q k : ℕ) → ¬ KnowsRank accepted p 0 q k
  pub own : (p x k : ℕ) → ¬ KnowsRank accepted p x p k
  pub ended : (p x q k : ℕ) → length (elements accepted q) < k → ¬ KnowsRank accepted p x q k
  -- what is known after a rank is known after each earlier one, and at each later place
  pub earlier : (p x q j k : ℕ) → j ≤ k → KnowsRank accepted p x q k → KnowsRank accepted p x q j
  pub later : (p x y q k : ℕ) → x ≤ y → y ≤ last_rank accepted p → KnowsRank accepted p x q k → KnowsRank accepted p y q k
  -- it is by elements
  pub later_at : (p x y q k : ℕ) → x ≤ y → y ≤ last_rank accepted p → KnowsAt accepted (place_at accepted p x) q k → KnowsAt accepted (place_at accepted p y) q k
  pub from_element : (p x q j k : ℕ) → j ≤ k → KnowsAt accepted (place_at accepted p x) q k → KnowsRank accepted p x q j
  pub by_element : (p x q j : ℕ) → KnowsRank accepted p x q j → (k : ℕ) × (j ≤ k) × KnowsAt accepted (place_at accepted p x) q k
