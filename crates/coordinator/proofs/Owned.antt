-- The owners of turns.
use Rattle.std.proofs.Common.{◌≡◌, ◌≢◌, ℕ, ◌+◌, ◌-◌, ◌<◌, ◌≤◌, List, length, get_or, set, Some, sym, ap, ◌∙◌, subst, inl, inr, arith, get_or-set_same, get_or-set_other}
use Rattle.std.specs.Prelude.{All, slice_get, slice_index}
use Rattle.std.proofs.lemmas.Bool.{cases_eq}
use Rattle.std.proofs.lemmas.Option.{same_Some, slice_get_within, slice_get-get_or}
use Rattle.chains.specs.Held.{Held}
use Rattle.desk.specs.declared.turn.Turn.{Turn}
use Rattle.coordinator.specs.declared.marking.Owner.{Owner}
use Rattle.coordinator.specs.Passes.{PassEntry, PassState}
use Rattle.coordinator.specs.Closing.{IsAtTurn, ShowsRightly}
use Rattle.coordinator.specs.working.Marks.{owner, owner_at, AreOwned}
use Rattle.coordinator.specs.working.Checks.{IsEntryOf, AreCheckedTo}

-- what an entry that is owned has
abbrev pub IsOwned : List Turn → List ℕ → List Owner → ℕ → ℕ → PassEntry → Type 0
IsOwned ts marks owners j k e = IsAtTurn ts e × (slice_index marks (e.receipt.turn - 1) ≡ 1) × (owner_at owners (e.receipt.turn - 1) ≡ owner j k)

-- nothing is owned before the first pass
pub owned_none : (ts : List Turn) (passes : List PassState) (marks : List ℕ) (owners : List Owner) → AreOwned ts passes marks owners 0 0
owned_none ts passes marks owners j k p e there entry (inl lt) = absurd (omega (arith, lt))
owned_none ts passes marks owners j k p e there entry (inr (same, lt)) = absurd (omega (arith, lt))

module _ (ts : List Turn) (passes : List PassState) (place : ℕ) (pass : PassState) (marks : List ℕ) (owners : List Owner) (n : ℕ) (e : PassEntry)
    (stands : slice_get passes place ≡ Some pass) (is : slice_get pass.entries n ≡ Some e)
    (fits : IsAtTurn ts e) (in_marks : e.receipt.turn - 1 < length marks) (in_owners : e.receipt.turn - 1 < length owners)
    (free : slice_index marks (e.receipt.turn - 1) ≡ 0) (owned : AreOwned ts passes marks owners place n) where
  -- an earlier one keeps its own
  earlier : (j k : ℕ) (x : PassEntry) → IsOwned ts marks owners j k x → IsOwned ts (set marks (e.receipt.turn - 1) 1) (set owners (e.receipt.turn - 1) (owner place n)) j k x
  earlier j k x (at, marked, own) =
      let i = e.receipt.turn - 1 in
      let m = x.receipt.turn - 1 in
      let apart : m ≢ i = λ same. absurd (omega (arith, sym marked ∙ ap (slice_index marks) same ∙ free)) in
      (at, get_or-set_other marks i m 1 0 apart ∙ marked, get_or-set_other owners i m (owner place n) (owner 0 0) apart ∙ own)

  this : IsOwned ts (set marks (e.receipt.turn - 1) 1) (set owners (e.receipt.turn - 1) (owner place n)) place n e
  this = (fits, get_or-set_same marks (e.receipt.turn - 1) 1 0 in_marks, get_or-set_same owners (e.receipt.turn - 1) (owner place n) (owner 0 0) in_owners)

  now : (j k : ℕ) (p : PassState) (x : PassEntry) → slice_get passes j ≡ Some p → slice_get p.entries k ≡ Some x → j ≡ place → k ≡ n
      → IsOwned ts (set marks (e.receipt.turn - 1) 1) (set owners (e.receipt.turn - 1) (owner place n)) j k x
  now j k p x there entry same at =
      let marks' = set marks (e.receipt.turn - 1) 1 in
      let owners' = set owners (e.receipt.turn - 1) (owner place n) in
      let q : p ≡ pass = same_Some p pass (sym there ∙ ap (slice_get passes) same ∙ stands) in
      let y : x ≡ e = same_Some x e (sym entry ∙ ap (λ (r : PassState). slice_get r.entries k) q ∙ ap (slice_get pass.entries) at ∙ is) in
      subst (λ (i : ℕ). IsOwned ts marks' owners' i k x) (sym same) (subst (λ (i : ℕ). IsOwned ts marks' owners' place i x) (sym at) (subst (λ (z : PassEntry). IsOwned ts marks' owners' place n z) (sym y) this))

  pub owned_more : AreOwned ts passes (set marks (e.receipt.turn - 1) 1) (set owners (e.receipt.turn - 1) (owner place n)) place (n + 1)
  owned_more j k p x there entry (inl lt) = earlier j k x (owned j k p x there entry (inl lt))
  owned_more j k p x there entry (inr (same, lt)) = elim (cases_eq k n) [
    | inl at ↦ now j k p x there entry same at
    | inr apart ↦ earlier j k x (owned j k p x there entry (inr (same, omega (arith, lt, apart))))
  ]

-- all entries of a pass are owned
pub owned_pass : (ts : List Turn) (passes : List PassState) (place : ℕ) (pass : PassState) (marks : List ℕ) (owners : List Owner) (n : ℕ) → slice_get passes place ≡ Some pass → length pass.entries ≤ n
    → AreOwned ts passes marks owners place n → AreOwned ts passes marks owners (place + 1) 0
owned_pass ts passes place pass marks owners n stands whole owned j k p x there entry (inr (same, lt)) = absurd (omega (arith, lt))
owned_pass ts passes place pass marks owners n stands whole owned j k p x there entry (inl lt) = elim (cases_eq j place) [
  | inl same ↦
      let q : p ≡ pass = same_Some p pass (sym there ∙ ap (slice_get passes) same ∙ stands) in
      let short : k < length p.entries = slice_get_within p.entries k x entry in
      owned j k p x there entry (inr (same, omega (arith, short, ap (λ (r : PassState). length r.entries) q, whole)))
  | inr apart ↦ owned j k p x there entry (inl (omega (arith, lt, apart)))
]

-- where the entries of all turns are right, all entries are
module _ (opening : Held) (ts : List Turn) (passes : List PassState) (marks : List ℕ) (owners : List Owner)
    (owned : AreOwned ts passes marks owners (length passes) 0) (checked : AreCheckedTo opening ts passes owners (length ts)) where
  right_entry : (j k : ℕ) (p : PassState) (e : PassEntry) → slice_get passes j ≡ Some p → slice_get p.entries k ≡ Some e → ShowsRightly opening ts e
  right_entry j k p e there entry =
      let has = owned j k p e there entry (inl (slice_get_within passes j p there)) in
      let i = e.receipt.turn - 1 in
      let below : i < length ts = slice_get_within ts i _ has.0.1 in
      let positive : 0 < e.receipt.turn = has.0.0 in
      let next : e.receipt.turn ≡ i + 1 = omega (arith, positive) in
      checked i p e below (subst (λ (o : Owner). IsEntryOf passes o (i + 1) p e) (sym has.2) (there, entry, next))

  right_pass : (j : ℕ) (p : PassState) → slice_get passes j ≡ Some p → All (ShowsRightly opening ts) p.entries
  right_pass j p there k d in_range = right_entry j k p (get_or p.entries k d) there (slice_get-get_or p.entries k d in_range)

  pub all_right : All (λ (p : PassState). All (ShowsRightly opening ts) p.entries) passes
  all_right j d in_range = right_pass j (get_or passes j d) (slice_get-get_or passes j d in_range)
