-- Which elements of a row some events are beyond. Elements are counted from 1.
use Rattle.std.specs.Prelude.{◌≡◌, ℕ, zero, suc, ◌-◌, ◌≤◌, ◌<◌, List, Option, Some, None, slice_get}
use Rattle.event_tree.specs.EventTree.{EventTree}
use Rattle.event_tree.specs.Values.{IsAtOrBelow, ExceedsOn}
use Rattle.stamp.specs.declared.stamp.Stamp.{Stamp}

-- element k of these stamps
abbrev pub element_number : List Stamp → ℕ → Option Stamp
element_number stamps zero = None
element_number stamps (suc k) = slice_get stamps k

-- the events are greater than those of element k at some point that its id owns
pub record IsBeyondAt (events : EventTree) (stamps : List Stamp) (k : ℕ) : Type 0 where
  pub stamp : Stamp
  pub is_element : element_number stamps k ≡ Some stamp
  pub exceeds : ExceedsOn stamp.id events stamp.events

-- and so at some element from k on
abbrev pub IsBeyondFrom : EventTree → List Stamp → ℕ → Type 0
IsBeyondFrom events stamps k = (later : ℕ) × (k ≤ later) × IsBeyondAt events stamps later

-- of the elements below `to`, beyond none from `found` on; and where `found` is above `from`, beyond the one before
pub record IsLastBeyond (events : EventTree) (stamps : List Stamp) (from to found : ℕ) : Type 0 where
  pub within : found ≤ to
  pub none : (k : ℕ) → found ≤ k → k < to → ¬ IsBeyondAt events stamps k
  pub last : from < found → IsBeyondAt events stamps (found - 1)

-- from stamp to stamp the events never fall
abbrev pub AreRising : List Stamp → Type 0
AreRising stamps =
    (i j : ℕ) (earlier later : Stamp) → i ≤ j → slice_get stamps i ≡ Some earlier → slice_get stamps j ≡ Some later
    → IsAtOrBelow earlier.events later.events

-- whatever is beyond element k is beyond the one before
abbrev pub AddsNothing : List Stamp → ℕ → Type 0
AddsNothing stamps k = (v : EventTree) → IsBeyondAt v stamps k → IsBeyondAt v stamps (k - 1)
