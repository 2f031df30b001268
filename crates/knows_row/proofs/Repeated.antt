-- Looking through the elements of a process, past those that have the id of the one before.
use Rattle.std.proofs.Common.{◌≡◌, inl, inr, ℕ, zero, suc, ◌+◌, ◌-◌, ◌≤◌, ◌<◌, max, List, [], ◌∷◌, length, get_or, Some, None, refl, sym, subst, ◌∙◌, arith}
use Rattle.std.specs.Prelude.{slice_get}
use Rattle.std.proofs.lemmas.Bool.{cases_lt}
use Rattle.std.proofs.lemmas.Option.{same_Some, slice_get_within, slice_get-get_or}
use Rattle.id_tree.specs.IdTree.{IdTree}
use Rattle.event_tree.specs.EventTree.{EventTree}
use Rattle.event_tree.specs.Values.{IsAtOrBelow, ExceedsOn}
use Rattle.stamp.specs.declared.stamp.Stamp.{Stamp}
use Rattle.chains.specs.LastRun.{same_id_from}
use Rattle.chains.proofs.LastRun.{run_same}
use Rattle.knows_row.specs.working.Beyond.{element_number, IsBeyondAt, IsBeyondFrom, AreRising}
use Rattle.knows_row.proofs.Looking.{NoneOf}

-- the events are beyond no element from k on up to this one, which has this id
pub record IsLookedAt (events : EventTree) (stamps : List Stamp) (k number : ℕ) (id : IdTree) : Type 0 where
  pub stamp : Stamp
  pub some : 0 < number
  pub there : slice_get stamps (number - 1) ≡ Some stamp
  pub same : stamp.id ≡ id
  pub none : NoneOf events stamps k (number + 1)

numbered_at : (stamps : List Stamp) (number : ℕ) → 0 < number → element_number stamps number ≡ slice_get stamps (number - 1)
numbered_at stamps zero some = absurd (omega (arith, some))
numbered_at stamps (suc j) some = let e : suc j - 1 ≡ j = omega arith in subst (λ (i : ℕ). slice_get stamps j ≡ slice_get stamps i) (sym e) refl

-- what is beyond an element exceeds it
exceeds_it : (events : EventTree) (stamps : List Stamp) (number : ℕ) (s : Stamp) → 0 < number → slice_get stamps (number - 1) ≡ Some s → IsBeyondAt events stamps number → ExceedsOn s.id events s.events
exceeds_it events stamps number s some there h =
    subst (λ (t : Stamp). ExceedsOn t.id events t.events) (same_Some h.stamp s (sym h.is_element ∙ (numbered_at stamps number some ∙ there))) h.exceeds

not_nought : (events : EventTree) (stamps : List Stamp) (number : ℕ) → IsBeyondAt events stamps number → 0 < number
not_nought events stamps zero h = absurd cc
not_nought events stamps (suc j) h = omega arith

-- beyond an element, so beyond some one from k on
pub beyond_there : (events : EventTree) (stamps : List Stamp) (k number : ℕ) (s : Stamp) → k ≤ number + 1 → slice_get stamps number ≡ Some s → ExceedsOn s.id events s.events → IsBeyondFrom events stamps k
beyond_there events stamps k number s le there exceeds =
    let e : number + 1 ≡ suc number = omega arith in
    (suc number, omega (arith, le), record { stamp = s; is_element = there; exceeds = exceeds })

pub looked_first : (events : EventTree) (stamps : List Stamp) (k : ℕ) (s : Stamp) → slice_get stamps (max k 1 - 1) ≡ Some s → ¬ ExceedsOn s.id events s.events → IsLookedAt events stamps k (max k 1) s.id
looked_first events stamps k s there below = record {
  stamp = s;
  some = omega arith;
  there = there;
  same = refl;
  none = λ j le lt h.
      let some = not_nought events stamps j h in
      let e : j ≡ max k 1 = omega (arith, le, lt, some) in
      below (exceeds_it events stamps (max k 1) s (omega arith) there (subst (IsBeyondAt events stamps) e h));
}

-- one more that the events are not beyond
pub looked_more : (events : EventTree) (stamps : List Stamp) (k number : ℕ) (id : IdTree) (t : Stamp) → IsLookedAt events stamps k number id → slice_get stamps number ≡ Some t → ¬ ExceedsOn t.id events t.events
    → IsLookedAt events stamps k (number + 1) t.id
looked_more events stamps k number id t h there below =
    let e : number + 1 - 1 ≡ number = omega arith in
    let here : slice_get stamps (number + 1 - 1) ≡ Some t = subst (λ (i : ℕ). slice_get stamps i ≡ Some t) (sym e) there in
    record {
      stamp = t;
      some = omega arith;
      there = here;
      same = refl;
      none = λ j le lt beyond. elim (cases_lt j (number + 1)) [
        | inl before ↦ h.none j le before beyond
        | inr last ↦
            let same : j ≡ number + 1 = omega (arith, lt, last) in
            below (exceeds_it events stamps (number + 1) t (omega arith) here (subst (IsBeyondAt events stamps) same beyond))
      ];
    }

-- what exceeds a later tree exceeds an earlier one on the same id
exceeds_earlier : (i j : IdTree) (v low high : EventTree) → i ≡ j → IsAtOrBelow low high → ExceedsOn j v high → ExceedsOn i v low
exceeds_earlier i j v low high same le h = subst (λ (x : IdTree). ExceedsOn x v low) (sym same) (h.0, h.1, let a = le h.0 in let b = h.2 in omega arith)

-- one with the id of the one before adds nothing
pub looked_same : (events : EventTree) (stamps : List Stamp) (k number : ℕ) (id : IdTree) (t : Stamp) → AreRising stamps → IsLookedAt events stamps k number id → k ≤ number → slice_get stamps number ≡ Some t → id ≡ t.id
    → IsLookedAt events stamps k (number + 1) id
looked_same events stamps k number id t rising h le there same =
    let low : IsAtOrBelow h.stamp.events t.events = rising (number - 1) number h.stamp t (omega arith) h.there there in
    let below : ¬ ExceedsOn t.id events t.events = λ exceeds.
    let earlier = exceeds_earlier h.stamp.id t.id events h.stamp.events t.events (h.same ∙ same) low exceeds in
    h.none number le (omega arith) (record { stamp = h.stamp; is_element = numbered_at stamps number h.some ∙ h.there; exceeds = earlier }) in
    subst (λ (i : IdTree). IsLookedAt events stamps k (number + 1) i) (sym same) (looked_more events stamps k number id t h there below)

within : (stamps : List Stamp) (number : ℕ) → length stamps ≤ number → slice_get stamps number ≡ None
within [] zero le = refl
within [] (suc n) le = refl
within (s ∷ ss) zero le = absurd (omega (arith, le))
within (s ∷ ss) (suc n) le = within ss n (omega (arith, le))

none_from : (events : EventTree) (stamps : List Stamp) (number j : ℕ) → length stamps ≤ number → number < j → ¬ IsBeyondAt events stamps j
none_from events stamps number zero long lt h = absurd (omega (arith, lt))
none_from events stamps number (suc i) long lt h = let e = sym h.is_element ∙ within stamps i (omega (arith, long, lt)) in absurd cc

-- all were looked at
looked_all : (events : EventTree) (stamps : List Stamp) (k number : ℕ) (id : IdTree) → IsLookedAt events stamps k number id → length stamps ≤ number → ¬ IsBeyondFrom events stamps k
looked_all events stamps k number id h long beyond = elim (cases_lt beyond.0 (number + 1)) [
  | inl before ↦ h.none beyond.0 beyond.1 before beyond.2
  | inr past ↦ none_from events stamps number beyond.0 long (omega (arith, past)) beyond.2
]

-- within the last run, what is beyond an element is beyond each one before
pub beyond_earlier : (events : EventTree) (stamps : List Stamp) (number later : ℕ) → AreRising stamps → same_id_from stamps < number → number ≤ later → IsBeyondAt events stamps later → IsBeyondAt events stamps number
beyond_earlier events stamps zero later rising run le h = absurd (omega (arith, run))
beyond_earlier events stamps (suc i) zero rising run le h = absurd (omega (arith, le))
beyond_earlier events stamps (suc i) (suc j) rising run le h =
    let within = slice_get_within stamps j h.stamp h.is_element in
    let s : Stamp = get_or stamps i h.stamp in
    let there : slice_get stamps i ≡ Some s = slice_get-get_or stamps i h.stamp (omega (arith, within, le)) in
    let same : s.id ≡ h.stamp.id = run_same stamps i j s h.stamp (omega (arith, run)) (omega (arith, run, le)) there h.is_element in
    let low : IsAtOrBelow s.events h.stamp.events = rising i j s h.stamp (omega (arith, le)) there h.is_element in
    record { stamp = s; is_element = there; exceeds = exceeds_earlier s.id h.stamp.id events s.events h.stamp.events same low h.exceeds }

-- one of the last run was looked at, and so all
pub looked_run : (events : EventTree) (stamps : List Stamp) (k number : ℕ) (id : IdTree) → AreRising stamps → IsLookedAt events stamps k number id → k ≤ number → same_id_from stamps < number → ¬ IsBeyondFrom events stamps k
looked_run events stamps k number id rising h le run beyond = elim (cases_lt beyond.0 (number + 1)) [
  | inl before ↦ h.none beyond.0 beyond.1 before beyond.2
  | inr past ↦ h.none number le (omega arith) (beyond_earlier events stamps number beyond.0 rising run (omega (arith, past)) beyond.2)
]

absent_long : (stamps : List Stamp) (number : ℕ) → slice_get stamps number ≡ None → length stamps ≤ number
absent_long [] number e = omega arith
absent_long (s ∷ ss) zero e = absurd cc
absent_long (s ∷ ss) (suc n) e = let le = absent_long ss n e in omega (arith, le)

pub looked_absent : (events : EventTree) (stamps : List Stamp) (k number : ℕ) (id : IdTree) → IsLookedAt events stamps k number id → slice_get stamps number ≡ None → ¬ IsBeyondFrom events stamps k
looked_absent events stamps k number id h absent = looked_all events stamps k number id h (absent_long stamps number absent)

-- there is none from k on
pub looked_none : (events : EventTree) (stamps : List Stamp) (k : ℕ) → slice_get stamps (max k 1 - 1) ≡ None → ¬ IsBeyondFrom events stamps k
looked_none events stamps k absent beyond =
    let some = not_nought events stamps beyond.0 beyond.2 in
    let le = beyond.1 in
    none_from events stamps (max k 1 - 1) beyond.0 (absent_long stamps (max k 1 - 1) absent) (omega (arith, some, le)) beyond.2

-- an element below the number of all is there
pub looked_there : (stamps : List Stamp) (number : ℕ) → number < length stamps → slice_get stamps number ≡ None → ⊥
looked_there stamps number lt absent = let le = absent_long stamps number absent in omega (arith, lt, le)
