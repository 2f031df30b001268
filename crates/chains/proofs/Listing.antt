-- Numbers in order, as they are found.
use Rattle.std.proofs.Common.{◌≡◌, ◌⊎◌, inl, inr, ℕ, ◌+◌, ◌<◌, ◌≤◌, List, [], ◌∷◌, ◌++◌, length, get_or, Contains, ◌↔◌, subst, arith}
use Rattle.std.specs.List.Sorted.{IsStrictlyIncreasing}
use Rattle.std.proofs.lemmas.Bool.{cases_lt}
use Rattle.std.proofs.lemmas.List.{get_or_append_left, get_or_default, get_or_push, length_push}
use Rattle.std.proofs.lemmas.List.Elements.{Contains-push, Contains-push_cases, Contains-append_left}

increasing_cases : (xs : List ℕ) (y k : ℕ) → IsStrictlyIncreasing xs → ((q : ℕ) → Contains xs q → q < y) → k + 1 < length (xs ++ y ∷ []) → (k + 1 < length xs) ⊎ (length xs ≤ k + 1) → get_or (xs ++ y ∷ []) k 0 < get_or (xs ++ y ∷ []) (k + 1) 0
increasing_cases xs y k rises below lt (inl within) =
    let a = get_or_append_left xs (y ∷ []) 0 k (omega (arith, within)) in
    let b = get_or_append_left xs (y ∷ []) 0 (k + 1) within in
    let c = rises k within in
    omega arith
increasing_cases xs y k rises below lt (inr past) =
    let all = length_push xs y in
    let inside : k < length xs = omega arith in
    let a = get_or_append_left xs (y ∷ []) 0 k inside in
    let b = get_or_push xs y 0 (k + 1) (omega arith) in
    let c = below (get_or xs k 0) (k, inside, get_or_default xs k (get_or xs k 0) 0 inside) in
    omega arith

pub increasing_push : (xs : List ℕ) (y : ℕ) → IsStrictlyIncreasing xs → ((q : ℕ) → Contains xs q → q < y) → IsStrictlyIncreasing (xs ++ y ∷ [])
increasing_push xs y rises below k lt = increasing_cases xs y k rises below lt (cases_lt (k + 1) (length xs))

-- the numbers below i of which P holds
pub record AreListedTo (P : ℕ → Type 0) (i : ℕ) (numbers : List ℕ) : Type 0 where
  pub in_order : IsStrictlyIncreasing numbers
  pub just_these : (q : ℕ) → (Contains numbers q ↔ ((q < i) × P q))

pub listed_none : (P : ℕ → Type 0) → AreListedTo P 0 []
listed_none P = record {
  in_order = λ k lt. absurd (omega arith);
  just_these = λ q. (λ there. absurd (omega (arith, there.1)), λ h. absurd (omega (arith, h.0)));
}

pub listed_more : (P : ℕ → Type 0) (i : ℕ) (numbers : List ℕ) → AreListedTo P i numbers → P i → AreListedTo P (i + 1) (numbers ++ i ∷ [])
listed_more P i numbers h is = record {
  in_order = increasing_push numbers i h.in_order (λ q there. ((h.just_these q).0 there).0);
  just_these = λ q. (
    λ there. elim (Contains-push_cases numbers i q there) [
      | inl old ↦ let was = (h.just_these q).0 old in (omega (arith, was.0), was.1)
      | inr e ↦ (omega (arith, e), subst P e is)
    ],
    λ holds. elim (cases_lt q i) [
      | inl below ↦ Contains-append_left numbers (i ∷ []) q ((h.just_these q).1 (below, holds.1))
      | inr past ↦ subst (Contains (numbers ++ i ∷ [])) (omega (arith, holds.0)) (Contains-push numbers i)
    ],
  );
}

pub listed_other : (P : ℕ → Type 0) (i : ℕ) (numbers : List ℕ) → AreListedTo P i numbers → ¬ P i → AreListedTo P (i + 1) numbers
listed_other P i numbers h isnt = record {
  in_order = h.in_order;
  just_these = λ q. (
    λ there. let was = (h.just_these q).0 there in (omega (arith, was.0), was.1),
    λ holds. elim (cases_lt q i) [
      | inl below ↦ (h.just_these q).1 (below, holds.1)
      | inr past ↦ let e : q ≡ i = omega (arith, holds.0) in absurd (isnt (subst P e holds.1))
    ],
  );
}

pub listed_same : (P Q : ℕ → Type 0) (i : ℕ) (numbers : List ℕ) → ((q : ℕ) → q < i → P q ↔ Q q) → AreListedTo P i numbers → AreListedTo Q i numbers
listed_same P Q i numbers same h = record {
  in_order = h.in_order;
  just_these = λ q. (
    λ there. let was = (h.just_these q).0 there in (was.0, (same q was.0).0 was.1),
    λ holds. (h.just_these q).1 (holds.0, (same q holds.0).1 holds.1),
  );
}
