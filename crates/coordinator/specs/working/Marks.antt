-- Working definitions: which turns have an entry, and where it stands.
use Rattle.std.specs.Prelude.{◌≡◌, ◌⊎◌, ℕ, ◌+◌, ◌-◌, ◌<◌, ◌≤◌, List, length, All, Some, slice_get, slice_index, slice_index_or, sum}
use Rattle.chains.specs.Held.{Held}
use Rattle.desk.specs.declared.turn.Turn.{Turn}
use Rattle.coordinator.specs.declared.marking.Owner.{Owner}
use Rattle.coordinator.specs.Passes.{PassEntry, PassState}
use Rattle.coordinator.specs.declared.fault.CloseFault.{CloseFault}
use Rattle.coordinator.specs.declared.fault.CloseFault.TheVariants.{Stranger, Missing, Memory}
use Rattle.coordinator.specs.Closing.{IsAtTurn, IsMissing, IsStrange, entries_of, times}

-- why passes were refused; if memory is missing, each entry stands at its turn nevertheless
abbrev pub IsCauseWithFits : Held → List Turn → List PassState → CloseFault → Type 0
IsCauseWithFits opening ts passes (Stranger number) = IsStrange opening ts passes number
IsCauseWithFits opening ts passes (Missing shares turns) = IsMissing opening ts passes shares turns
IsCauseWithFits opening ts passes Memory = All (IsAtTurn ts) (entries_of passes)

-- the marks count the entries at each turn, and those entries stand at their turns
pub record IsMarked (ts : List Turn) (marks : List ℕ) (es : List PassEntry) : Type 0 where
  pub counts : (i : ℕ) → i < length marks → slice_index marks i ≡ times (i + 1) es
  pub once : (i : ℕ) → i < length marks → slice_index marks i ≤ 1
  pub total : sum marks ≡ length es
  pub fits : All (IsAtTurn ts) es

abbrev pub owner : ℕ → ℕ → Owner
owner place k = record { pass = place; entry = k }

-- the owner of the turn of this index
abbrev pub owner_at : List Owner → ℕ → Owner
owner_at owners i = slice_index_or owners i (owner 0 0)

-- entry k of this pass comes before entry `to` of the pass at this place, or is one of an earlier pass
abbrev pub ComesBefore : ℕ → ℕ → ℕ → ℕ → Type 0
ComesBefore place to j k = (j < place) ⊎ ((j ≡ place) × (k < to))

-- those entries stand at their turns, which are marked, and of which they are the owners
abbrev pub AreOwned : List Turn → List PassState → List ℕ → List Owner → ℕ → ℕ → Type 0
AreOwned ts passes marks owners place to =
    (j k : ℕ) (p : PassState) (e : PassEntry) → slice_get passes j ≡ Some p → slice_get p.entries k ≡ Some e → ComesBefore place to j k
    → IsAtTurn ts e × (slice_index marks (e.receipt.turn - 1) ≡ 1) × (owner_at owners (e.receipt.turn - 1) ≡ owner j k)
