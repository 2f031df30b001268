-- Processes in a list, in order of birth, of which a place knows none up to one.
use Rattle.std.proofs.Common.{◌≡◌, inl, inr, ℕ, zero, suc, ◌+◌, ◌-◌, ◌≤◌, ◌<◌, List, length, sym, ◌∙◌, subst, arith}
use Rattle.std.specs.Prelude.{slice_index, Contains}
use Rattle.std.specs.List.Sorted.{IsStrictlyIncreasing}
use Rattle.std.proofs.lemmas.Bool.{cases_lt}
use Rattle.std.proofs.lemmas.Grind.{get_or_default_zero}
use Rattle.std.proofs.lemmas.List.{get_or_default}
use Rattle.report_line.specs.declared.report.Report.{Report}
use Rattle.knows_row.specs.Knowing.{KnowsRank}
use Rattle.knows_row.specs.Looks.{IsFirstKnown}

-- the place at this rank knows none of the first of these processes after its rank in the cut
abbrev pub AreUnknownTo : List Report → List ℕ → List ℕ → ℕ → ℕ → ℕ → Type 0
AreUnknownTo accepted cut among p x n = (i : ℕ) → i < n → let q : ℕ = slice_index among i in ¬ KnowsRank accepted p x q (slice_index cut q)

-- which element of a list it is
pub there : (among : List ℕ) (q : ℕ) → Contains among q → (i : ℕ) × (i < length among) × (slice_index among i ≡ q)
there among q h = (h.0, h.1, sym (get_or_default_zero among h.0 q h.1) ∙ h.2)

-- where that holds of as many as there are, it holds of all
pub all_unknown : (accepted : List Report) (cut among : List ℕ) (p x n : ℕ) → length among ≤ n → AreUnknownTo accepted cut among p x n
    → (q : ℕ) → Contains among q → ¬ KnowsRank accepted p x q (slice_index cut q)
all_unknown accepted cut among p x n le none q contains knows =
    let at = there among q contains in
    none at.0 (omega (arith, at.1, le)) (subst (λ (j : ℕ). KnowsRank accepted p x j (slice_index cut j)) (sym at.2) knows)

-- numbers that rise do so over any distance
rising : (among : List ℕ) → IsStrictlyIncreasing among → (i d : ℕ) → i + d < length among → slice_index among i ≤ slice_index among (i + d)
rising among h i zero lt = let e : i + 0 ≡ i = omega arith in rw e (omega arith)
rising among h i (suc d) lt =
    let e : i + suc d ≡ (i + d) + 1 = omega arith in
    let before = rising among h i d (omega arith) in
    let next = h (i + d) (omega arith) in
    rw e (omega arith)

pub rises : (among : List ℕ) → IsStrictlyIncreasing among → (i j : ℕ) → i ≤ j → j < length among → slice_index among i ≤ slice_index among j
rises among h i j le lt = let e : i + (j - i) ≡ j = omega arith in subst (λ (k : ℕ). slice_index among i ≤ slice_index among k) e (rising among h i (j - i) (omega (arith, e, lt)))

-- where none before is known, one that is known is the first
pub is_first_known : (accepted : List Report) (cut among : List ℕ) (p x n : ℕ) → n < length among → IsStrictlyIncreasing among → AreUnknownTo accepted cut among p x n
    → KnowsRank accepted p x (slice_index among n) (slice_index cut (slice_index among n)) → IsFirstKnown accepted among cut p x (slice_index among n)
is_first_known accepted cut among p x n lt sorted none knows = record {
  one = (n, lt, get_or_default among n (slice_index among n) 0 lt);
  known = knows;
  first = λ j contains later.
      let at = there among j contains in
      elim (cases_lt at.0 n) [
        | inl before ↦ absurd (none at.0 before (subst (λ (i : ℕ). KnowsRank accepted p x i (slice_index cut i)) (sym at.2) later))
        | inr past ↦ subst (λ (i : ℕ). slice_index among n ≤ i) at.2 (rises among sorted n at.0 past at.1)
      ];
}
