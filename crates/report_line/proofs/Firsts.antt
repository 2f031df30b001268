-- The first place of a byte, looked for at the front of a text and then behind that.
use Rattle.std.proofs.Common.{◌≡◌, ℕ, ◌+◌, ◌-◌, ◌≤◌, ◌<◌, List, length, inl, inr, sym, ap, subst, ◌∙◌, arith}
use Rattle.std.specs.Prelude.{slice_index, take, drop}
use Rattle.std.proofs.lemmas.Bool.{cases_lt}
use Rattle.std.proofs.lemmas.List.{get_or-take, get_or-drop}
use Rattle.memchr.specs.Find.{is_byte, Passes, Nowhere, NoneBefore}

module _ (byte n : ℕ) (bytes few many : List ℕ) (front : few ≡ take n bytes) (back : many ≡ drop n bytes) (long : length few ≡ n) (length_of : length many + n ≡ length bytes)
    (none : Nowhere (Passes (is_byte byte) few) 0 (length few)) where
  at_front : (k : ℕ) → k < n → slice_index few k ≡ slice_index bytes k
  at_front k lt = ap (λ (xs : List ℕ). slice_index xs k) front ∙ get_or-take n bytes k 0 lt

  at_back : (k : ℕ) → n ≤ k → slice_index many (k - n) ≡ slice_index bytes k
  at_back k le =
      let same : n + (k - n) ≡ k = omega (arith, le) in
      ap (λ (xs : List ℕ). slice_index xs (k - n)) back ∙ get_or-drop n bytes (k - n) 0 ∙ ap (slice_index bytes) same

  at_back_sum : (at : ℕ) → slice_index many at ≡ slice_index bytes (n + at)
  at_back_sum at = ap (λ (xs : List ℕ). slice_index xs at) back ∙ get_or-drop n bytes at 0

  pub none_up_to : (m : ℕ) → Nowhere (Passes (is_byte byte) many) 0 m → Nowhere (Passes (is_byte byte) bytes) 0 (n + m)
  none_up_to m behind k low high passes = elim (cases_lt k n) [
    | inl lt ↦ none k low (omega (arith, lt, long)) (ap (is_byte byte) (at_front k lt) ∙ passes)
    | inr ge ↦ behind (k - n) (omega arith) (omega (arith, high, ge)) (ap (is_byte byte) (at_back k ge) ∙ passes)
  ]

  pub found_behind : (at place : ℕ) → place ≡ n + at → NoneBefore (Passes (is_byte byte) many) 0 (length many) at × Passes (is_byte byte) many at
      → NoneBefore (Passes (is_byte byte) bytes) 0 (length bytes) place × Passes (is_byte byte) bytes place
  found_behind at place is found =
      subst (λ (i : ℕ). NoneBefore (Passes (is_byte byte) bytes) 0 (length bytes) i × Passes (is_byte byte) bytes i) (sym is) (
        record {
          low = omega arith;
          high = omega (arith, found.0.high, length_of);
          before = none_up_to at found.0.before;
        },
        ap (is_byte byte) (sym (at_back_sum at)) ∙ found.1,
      )
