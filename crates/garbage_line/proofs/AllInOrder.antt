-- Numbers in order that are just those below one.
use Rattle.std.proofs.Common.{◌≡◌, inl, inr, ℕ, zero, suc, ◌+◌, ◌<◌, ◌≤◌, List, length, sym, ◌∙◌, subst, arith, zero-add}
use Rattle.std.specs.Prelude.{slice_index, Contains, ◌↔◌}
use Rattle.std.specs.List.{range_with_len}
use Rattle.std.specs.List.Sorted.{IsStrictlyIncreasing}
use Rattle.std.proofs.lemmas.Bool.{cases_order}
use Rattle.std.proofs.lemmas.List.{ext_get_or, get_or_default}
use Rattle.std.proofs.lemmas.List.FromFn.{length-range_with_len, get_or-range_with_len}

module _ (xs : List ℕ) (n : ℕ) (rises : IsStrictlyIncreasing xs) (just : (p : ℕ) → (Contains xs p ↔ (p < n))) where
  -- over any distance they rise by at least that
  rise_from : (i d : ℕ) → i + d < length xs → slice_index xs i + d ≤ slice_index xs (i + d)
  rise_from i zero l = let e : i + 0 ≡ i = omega arith in subst (λ (k : ℕ). slice_index xs i + 0 ≤ slice_index xs k) (sym e) (omega arith)
  rise_from i (suc d) l =
      let before = rise_from i d (omega arith) in
      let step = rises (i + d) (omega arith) in
      let e : (i + d) + 1 ≡ i + suc d = omega arith in
      subst (λ (k : ℕ). slice_index xs i + suc d ≤ slice_index xs k) e (omega arith)

  at_least : (i : ℕ) → i < length xs → i ≤ slice_index xs i
  at_least i l =
      let e : 0 + i ≡ i = omega arith in
      let r = subst (λ (k : ℕ). slice_index xs 0 + i ≤ slice_index xs k) e (rise_from 0 i (omega arith)) in
      omega arith

  place_of : (p : ℕ) → p < n → (k : ℕ) × (k < length xs) × (slice_index xs k ≡ p)
  place_of p lt = let c = (just p).1 lt in (c.0, c.1, get_or_default xs c.0 0 p c.1 ∙ c.2)

  -- where those before it stand at their own places, so does this one
  next_own : (i k : ℕ) → k < length xs → slice_index xs k ≡ i → ((j : ℕ) → j < i → slice_index xs j ≡ j) → (i < length xs) × (slice_index xs i ≡ i)
  next_own i k l is own = elim (cases_order k i) [
    | inl same ↦ (subst (λ (m : ℕ). m < length xs) same l, subst (λ (m : ℕ). slice_index xs m ≡ i) same is)
    | inr (inl before) ↦ (let e = own k before in absurd (omega (arith, e, is)))
    | inr (inr behind) ↦ (let least = at_least k l in absurd (omega (arith, is)))
  ]

  own_below : (i : ℕ) → i ≤ n → (i ≤ length xs) × ((j : ℕ) → j < i → slice_index xs j ≡ j)
  own_below zero le = (omega arith, λ j lt. absurd (omega arith))
  own_below (suc i) le =
      let before = own_below i (omega arith) in
      let at = place_of i (omega arith) in
      let next = next_own i at.0 at.1 at.2 before.1 in (
        omega (arith, next.0),
        λ j lt. elim (cases_order j i) [
          | inl same ↦ subst (λ (m : ℕ). slice_index xs m ≡ m) (sym same) next.1
          | inr (inl less) ↦ before.1 j less
          | inr (inr more) ↦ absurd (omega arith)
        ],
      )

  as_many : length xs ≡ n
  as_many =
      let all = own_below n (omega arith) in
      elim (cases_order (length xs) n) [
        | inl same ↦ same
        | inr (inl less) ↦ absurd (omega (arith, all.0))
        | inr (inr more) ↦
            (let within = (just (slice_index xs n)).0 (n, more, get_or_default xs n (slice_index xs n) 0 more) in
            let least = at_least n more in
            absurd (omega arith))
      ]

  pub all_in_order : xs ≡ range_with_len 0 n
  all_in_order =
      ext_get_or 0 xs (range_with_len 0 n) (as_many ∙ sym (length-range_with_len 0 n)) (λ i l.
      let m : i < n = omega (arith, as_many) in
      (own_below n (omega arith)).1 i m ∙ sym (get_or-range_with_len 0 n i 0 m ∙ zero-add i))
