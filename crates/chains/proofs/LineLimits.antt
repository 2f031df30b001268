-- The limits that a line sets, by name.
use Rattle.std.proofs.Common.{◌≡◌, ℕ, zero, suc, ◌+◌, ◌<◌, List, [], ◌∷◌, ◌++◌, length, Some, refl, sym, ap, subst, ◌∙◌, inl, inr, arith}
use Rattle.std.specs.Prelude.{Contains, slice_get, slice_index_or}
use Rattle.std.specs.Str.{bytes_eq}
use Rattle.std.proofs.lemmas.Bool.{cases_Bool, cases_lt, cond-true, cond-false}
use Rattle.std.proofs.lemmas.List.{get_or_append_left, get_or_push, length_push}
use Rattle.std.proofs.lemmas.Option.{same_Some, slice_get-get_or}
use Rattle.std.proofs.lemmas.Slice.Eq.{bytes_eq-Decides}
use Rattle.report_line.specs.declared.report.Report.{Report}
use Rattle.chains.specs.declared.position.Position.{Position}
use Rattle.chains.specs.declared.position.Position.TheVariants.{At}
use Rattle.chains.specs.Processes.{Name, known, IsKnown}
use Rattle.chains.specs.Elements.{name_of}
use Rattle.chains.specs.Folded.{IsFolded}
use Rattle.chains.specs.Positions.{position_in}
use Rattle.chains.specs.Settled.{position_for, limit}
use Rattle.chains.specs.working.Settling.{limits_in, AreLimits}
use Rattle.chains.proofs.Stepping.{other_bytes}
use Rattle.chains.proofs.Certain.{known_or_not}
use Rattle.chains.proofs.Distinct.{distinct_known}
use Rattle.chains.proofs.Failing.{same_number}
use Rattle.chains.proofs.LineReports.{first_there, later_there}

-- ---- what stands beside a name

limit_at : (names : List Name) (limits : List ℕ) (p : Name) (i : ℕ) → slice_get names i ≡ Some p → ((j : ℕ) → slice_get names j ≡ Some p → j ≡ i) → limits_in names limits p ≡ slice_index_or limits i 0
limit_at [] limits p i is one = absurd (cc)
limit_at (q ∷ names) [] p i is one = refl
limit_at (q ∷ names) (n ∷ limits) p zero is one = cond-true (bytes_eq p q) _ _ ((bytes_eq-Decides p q).1 (sym (same_Some q p is)))
limit_at (q ∷ names) (n ∷ limits) p (suc i) is one =
    elim (cases_Bool (bytes_eq p q)) [
      | inl same ↦ (let first : 0 ≡ suc i = one 0 (ap Some (sym ((bytes_eq-Decides p q).0 same))) in absurd (omega arith))
      | inr other ↦ cond-false (bytes_eq p q) _ _ other ∙ limit_at names limits p i is (λ j there. let up : suc j ≡ suc i = one (suc j) there in omega arith)
    ]

position_at : (names : List Name) (cut : List Position) (p : Name) (i : ℕ) → slice_get names i ≡ Some p → ((j : ℕ) → slice_get names j ≡ Some p → j ≡ i) → position_for names cut p ≡ slice_index_or cut i (At 0)
position_at [] cut p i is one = absurd (cc)
position_at (q ∷ names) [] p i is one = refl
position_at (q ∷ names) (k ∷ cut) p zero is one = cond-true (bytes_eq p q) _ _ ((bytes_eq-Decides p q).1 (sym (same_Some q p is)))
position_at (q ∷ names) (k ∷ cut) p (suc i) is one =
    elim (cases_Bool (bytes_eq p q)) [
      | inl same ↦ (let first : 0 ≡ suc i = one 0 (ap Some (sym ((bytes_eq-Decides p q).0 same))) in absurd (omega arith))
      | inr other ↦ cond-false (bytes_eq p q) _ _ other ∙ position_at names cut p i is (λ j there. let up : suc j ≡ suc i = one (suc j) there in omega arith)
    ]

no_limit : (names : List Name) (limits : List ℕ) (p : Name) → ¬ Contains names p → limits_in names limits p ≡ 0
no_limit [] limits p out = refl
no_limit (q ∷ names) [] p out = refl
no_limit (q ∷ names) (n ∷ limits) p out =
    cond-false (bytes_eq p q) _ _ (other_bytes p q (λ e. out (first_there q p names (sym e)))) ∙ no_limit names limits p (λ there. out (later_there q p names there))

no_position : (names : List Name) (cut : List Position) (p : Name) → ¬ Contains names p → position_for names cut p ≡ At 0
no_position [] cut p out = refl
no_position (q ∷ names) [] p out = refl
no_position (q ∷ names) (k ∷ cut) p out =
    cond-false (bytes_eq p q) _ _ (other_bytes p q (λ e. out (first_there q p names (sym e)))) ∙ no_position names cut p (λ there. out (later_there q p names there))

one_number : (accepted : List Report) (i : ℕ) (p : Name) → IsFolded accepted → name_of accepted i ≡ Some p → (j : ℕ) → slice_get (known accepted) j ≡ Some p → j ≡ i
one_number accepted i p folded is j there = same_number accepted j i p (distinct_known accepted folded) there is

-- the limit of a known process
pub limit_there : (accepted : List Report) (limits : List ℕ) (i : ℕ) (p : Name) → IsFolded accepted → name_of accepted i ≡ Some p → slice_index_or limits i 0 ≡ limits_in (known accepted) limits p
limit_there accepted limits i p folded is = sym (limit_at (known accepted) limits p i is (one_number accepted i p folded is))

-- who is not known has none
pub limit_of_none : (accepted : List Report) (limits : List ℕ) (p : Name) → ¬ IsKnown accepted p → 0 ≡ limits_in (known accepted) limits p
limit_of_none accepted limits p unknown = sym (no_limit (known accepted) limits p unknown)

-- ---- the limits of a line

-- the first i of them
pub record AreLimitsTo (accepted : List Report) (line : List Position) (i : ℕ) (limits : List ℕ) : Type 0 where
  pub complete : length limits ≡ i
  pub each : (j : ℕ) (p : Name) → j < i → name_of accepted j ≡ Some p → slice_index_or limits j 0 ≡ limit accepted p (position_in line j)

pub limits_none : (accepted : List Report) (line : List Position) (limits : List ℕ) → limits ≡ [] → AreLimitsTo accepted line 0 limits
limits_none accepted line limits none = record { complete = ap (λ (l : List ℕ). length l) none; each = λ j p lt is. absurd (omega arith) }

pub limits_more : (accepted : List Report) (line : List Position) (i n : ℕ) (limits : List ℕ) → AreLimitsTo accepted line i limits
    → ((p : Name) → name_of accepted i ≡ Some p → n ≡ limit accepted p (position_in line i)) → AreLimitsTo accepted line (i + 1) (limits ++ n ∷ [])
limits_more accepted line i n limits h is = record {
  complete = omega (arith, length_push limits n, h.complete);
  each = λ j p lt there. elim (cases_lt j i) [
    | inl below ↦ get_or_append_left limits (n ∷ []) 0 j (omega (arith, h.complete)) ∙ h.each j p below there
    | inr past ↦
        (let e : i ≡ j = omega arith in
        get_or_push limits n 0 j (omega (arith, h.complete)) ∙ is p (subst (λ (k : ℕ). name_of accepted k ≡ Some p) (sym e) there) ∙ ap (λ (k : ℕ). limit accepted p (position_in line k)) e)
  ];
}

pub limits_all : (accepted : List Report) (line : List Position) (limits : List ℕ) → IsFolded accepted → AreLimitsTo accepted line (length (known accepted)) limits → AreLimits accepted line limits
limits_all accepted line limits folded h = record {
  complete = h.complete;
  each = λ p. elim (known_or_not accepted p) [
    | inl there ↦
        (let i : ℕ = there.0 in
        let is : name_of accepted i ≡ Some p = slice_get-get_or (known accepted) i p there.1 ∙ ap Some there.2 in
        sym (limit_there accepted limits i p folded is) ∙ h.each i p there.1 is ∙ ap (limit accepted p) (sym (position_at (known accepted) line p i is (one_number accepted i p folded is))))
    | inr unknown ↦ no_limit (known accepted) limits p unknown ∙ ap (limit accepted p) (sym (no_position (known accepted) line p unknown))
  ];
}
