-- No name is that of two known processes.
use Rattle.std.proofs.Common.{◌≡◌, ◌⊎◌, inl, inr, ℕ, ◌<◌, ◌≤◌, List, [], ◌∷◌, ◌++◌, length, get_or, Option, Some, None, refl, sym, ap, subst, ◌∙◌, arith, append-nil, length-append}
use Rattle.std.specs.Prelude.{Contains}
use Rattle.std.specs.List.{cons_option}
use Rattle.std.proofs.lemmas.Bool.{cases_lt}
use Rattle.std.proofs.lemmas.List.{get_or_append_left, get_or_default}
use Rattle.std.proofs.Math.Seq.{get_or-append_seam}
use Rattle.report_line.specs.declared.report.ReportKind.{ReportKind}
use Rattle.report_line.specs.declared.report.ReportKind.TheVariants.{Fork}
use Rattle.report_line.specs.declared.report.NumberedReport.{NumberedReport}
use Rattle.report_line.specs.declared.report.Report.{Report}
use Rattle.report_line.specs.declared.report.Report.TheVariants.{Begin, Numbered}
use Rattle.chains.specs.Processes.{Name, newborn, child_of, known, IsKnown}
use Rattle.chains.specs.Folded.{IsFitAction, IsFit, IsFolded, nothing_folded, one_folded}
use Rattle.chains.specs.working.Inside.{AreDistinctNames}
use Rattle.chains.proofs.Stepping.{none_some, some_name, known-push}

-- ---- lists of names

-- a name that is at an index within is in the list
at_index : (ks : List Name) (q p : Name) (i : ℕ) → i < length ks → get_or (ks ++ q ∷ []) i p ≡ q → Contains ks q
at_index ks q p i lt e = (i, lt, get_or_default ks i q p lt ∙ sym (get_or_append_left ks (q ∷ []) p i lt) ∙ e)

distinct_cases : (ks : List Name) (q p : Name) (i j : ℕ) → AreDistinctNames ks → ¬ Contains ks q → (i < length ks) ⊎ (length ks ≤ i) → (j < length ks) ⊎ (length ks ≤ j)
    → i < length (ks ++ q ∷ []) → j < length (ks ++ q ∷ []) → get_or (ks ++ q ∷ []) i p ≡ get_or (ks ++ q ∷ []) j p → i ≡ j
distinct_cases ks q p i j d n (inl a) (inl b) lt lt' e = d i j p a b (sym (get_or_append_left ks (q ∷ []) p i a) ∙ e ∙ get_or_append_left ks (q ∷ []) p j b)
distinct_cases ks q p i j d n (inl a) (inr b) lt lt' e =
    let last : j ≡ length ks = omega (arith, length-append ks (q ∷ [])) in
    absurd (n (at_index ks q p i a (e ∙ ap (λ (k : ℕ). get_or (ks ++ q ∷ []) k p) last ∙ get_or-append_seam ks q [] p)))
distinct_cases ks q p i j d n (inr a) (inl b) lt lt' e =
    let last : i ≡ length ks = omega (arith, length-append ks (q ∷ [])) in
    absurd (n (at_index ks q p j b (sym e ∙ ap (λ (k : ℕ). get_or (ks ++ q ∷ []) k p) last ∙ get_or-append_seam ks q [] p)))
distinct_cases ks q p i j d n (inr a) (inr b) lt lt' e = omega (arith, length-append ks (q ∷ []))

distinct_push : (ks : List Name) (q : Name) → AreDistinctNames ks → ¬ Contains ks q → AreDistinctNames (ks ++ q ∷ [])
distinct_push ks q d n i j p lt lt' e = distinct_cases ks q p i j d n (cases_lt i (length ks)) (cases_lt j (length ks)) lt lt' e

distinct_with : (ks : List Name) (o : Option Name) → AreDistinctNames ks → ((q : Name) → o ≡ Some q → ¬ Contains ks q) → AreDistinctNames (ks ++ cons_option o [])
distinct_with ks None d n = subst AreDistinctNames (sym (append-nil ks)) d
distinct_with ks (Some q) d n = distinct_push ks q d (n q refl)

-- ---- names of processes

-- the child that an accepted report makes was not known
pub unknown_child : (accepted : List Report) (r : NumberedReport) (a : ReportKind) → IsFitAction accepted r a → (q : Name) → child_of a ≡ Some q → ¬ IsKnown accepted q
unknown_child accepted r (Fork f) fit q e = λ is_known. fit.0 (subst (IsKnown accepted) (sym (some_name f.child q e)) is_known)
unknown_child accepted r _ fit q e = absurd (none_some q e)

-- the process that an accepted report makes was not known
pub unknown_newborn : (accepted : List Report) (r : Report) → IsFit accepted r → (q : Name) → newborn r ≡ Some q → ¬ IsKnown accepted q
unknown_newborn accepted (Begin p) first q e = λ is_known.
    let none = ap (λ (xs : List Report). length (known xs)) first in
    let some = is_known.1 in
    omega arith
unknown_newborn accepted (Numbered r) fit q e = unknown_child accepted r r.action fit.fit q e

pub distinct_known : (accepted : List Report) → IsFolded accepted → AreDistinctNames (known accepted)
distinct_known _ nothing_folded = λ i j p lt lt' e. absurd (omega arith)
distinct_known _ (one_folded accepted r folded fit) =
    subst AreDistinctNames (sym (known-push accepted r)) (distinct_with (known accepted) (newborn r) (distinct_known accepted folded) (unknown_newborn accepted r fit))
