-- What one more report changes.
use Rattle.std.proofs.Common.{◌≡◌, ◌≢◌, ◌⊎◌, inl, inr, Bool, true, false, cond, List, [], ◌∷◌, ◌++◌, Option, Some, None, refl, sym, ap, subst, ◌∙◌, append-nil}
use Rattle.std.specs.Prelude.{◌||◌, Contains}
use Rattle.std.specs.List.{cons_option}
use Rattle.std.specs.Str.{bytes_eq}
use Rattle.std.proofs.Math.Bool.{or-false}
use Rattle.std.proofs.lemmas.Bool.{cases_Bool, true≢false, false_from_ne_true}
use Rattle.std.proofs.lemmas.List.Elements.{filter_map-append, Contains-append_left, Contains-push, Contains-push_cases}
use Rattle.std.proofs.lemmas.List.Folds.{list_any-append}
use Rattle.std.proofs.lemmas.Slice.Eq.{bytes_eq-Decides}
use Rattle.report_line.specs.declared.report.ReportKind.{ReportKind}
use Rattle.report_line.specs.declared.report.ReportKind.TheVariants.{Fork}
use Rattle.report_line.specs.declared.report.Forked.{Forked}
use Rattle.report_line.specs.declared.report.NumberedReport.{NumberedReport}
use Rattle.report_line.specs.declared.report.Report.{Report}
use Rattle.report_line.specs.declared.report.Report.TheVariants.{Numbered}
use Rattle.chains.specs.Processes.{Name, newborn, known, IsKnown, first_of, last_passing, is_numbered_of, is_birth_of, is_absorb_of, last_report, birth_report, id_after, id_kept, registered_id, target_after, target_of, is_absorbed}

-- ---- names

pub same_bytes : (p : Name) → bytes_eq p p ≡ true
same_bytes p = (bytes_eq-Decides p p).1 refl

pub other_bytes : (p q : Name) → p ≢ q → bytes_eq p q ≡ false
other_bytes p q n = false_from_ne_true (bytes_eq p q) (λ e. n ((bytes_eq-Decides p q).0 e))

pub same_or_other : (p q : Name) → (p ≡ q) ⊎ (p ≢ q)
same_or_other p q = elim (cases_Bool (bytes_eq p q)) [ inl e ↦ inl ((bytes_eq-Decides p q).0 e) | inr e ↦ inr (λ h. true≢false (sym ((bytes_eq-Decides p q).1 h) ∙ e)) ]

pub none_some : (q : Name) → let o : Option Name = None in o ≢ Some q
none_some q e = cc

pub some_name : (p q : Name) → Some p ≡ Some q → p ≡ q
some_name p q e = cc

-- ---- the last that passes

first_of-none : {X : Type 0} (o : Option X) → first_of o None ≡ o
first_of-none None = refl
first_of-none (Some x) = refl

first_of-first_of : {X : Type 0} (o p q : Option X) → first_of (first_of o p) q ≡ first_of o (first_of p q)
first_of-first_of None p q = refl
first_of-first_of (Some x) p q = refl

pub last_passing-push : {X : Type 0} (test : X → Bool) (xs : List X) (y : X) → last_passing test (xs ++ y ∷ []) ≡ first_of (cond (test y) (Some y) None) (last_passing test xs)
last_passing-push test [] y = sym (first_of-none (cond (test y) (Some y) None))
last_passing-push test (x ∷ xs) y =
    ap (λ o. first_of o (cond (test x) (Some x) None)) (last_passing-push test xs y)
    ∙ first_of-first_of (cond (test y) (Some y) None) (last_passing test xs) (cond (test x) (Some x) None)

pub passing : {X : Type 0} (test : X → Bool) (xs : List X) (y : X) → test y ≡ true → last_passing test (xs ++ y ∷ []) ≡ Some y
passing test xs y e = last_passing-push test xs y ∙ ap (λ b. first_of (cond b (Some y) None) (last_passing test xs)) e

pub failing : {X : Type 0} (test : X → Bool) (xs : List X) (y : X) → test y ≡ false → last_passing test (xs ++ y ∷ []) ≡ last_passing test xs
failing test xs y e = last_passing-push test xs y ∙ ap (λ b. first_of (cond b (Some y) None) (last_passing test xs)) e

-- ---- what is known

pub known-push : (accepted : List Report) (r : Report) → known (accepted ++ r ∷ []) ≡ known accepted ++ cons_option (newborn r) []
known-push accepted r = filter_map-append newborn accepted (r ∷ [])

pub still_known : (accepted : List Report) (r : Report) (q : Name) → IsKnown accepted q → IsKnown (accepted ++ r ∷ []) q
still_known accepted r q h = subst (λ ks. Contains ks q) (sym (known-push accepted r)) (Contains-append_left (known accepted) (cons_option (newborn r) []) q h)

pub known_new : (accepted : List Report) (r : Report) (q : Name) → newborn r ≡ Some q → IsKnown (accepted ++ r ∷ []) q
known_new accepted r q e = subst (λ ks. Contains ks q) (sym (known-push accepted r ∙ ap (λ o. known accepted ++ cons_option o []) e)) (Contains-push (known accepted) q)

new_cases : (ks : List Name) (o : Option Name) (q : Name) → Contains (ks ++ cons_option o []) q → Contains ks q ⊎ (o ≡ Some q)
new_cases ks None q h = inl (subst (λ l. Contains l q) (append-nil ks) h)
new_cases ks (Some p) q h = elim (Contains-push_cases ks p q h) [ inl there ↦ inl there | inr e ↦ inr (ap (λ n. Some n) e) ]

pub known_cases : (accepted : List Report) (r : Report) (q : Name) → IsKnown (accepted ++ r ∷ []) q → IsKnown accepted q ⊎ (newborn r ≡ Some q)
known_cases accepted r q h = new_cases (known accepted) (newborn r) q (subst (λ ks. Contains ks q) (known-push accepted r) h)

-- ---- one more report with a number

pub absorbed-push : (q : Name) (accepted : List Report) (r : Report) → is_absorbed q (accepted ++ r ∷ []) ≡ (is_absorbed q accepted || is_absorb_of q r)
absorbed-push q accepted r = list_any-append (is_absorb_of q) accepted (r ∷ []) ∙ ap (λ b. is_absorbed q accepted || b) (or-false (is_absorb_of q r))

-- the report with this action; with its own it is the report itself
abbrev pub doing : NumberedReport → ReportKind → NumberedReport
doing r a = record r { action = a }

pub own_report : (accepted : List Report) (r : NumberedReport) → last_report r.process (accepted ++ Numbered r ∷ []) ≡ Some (Numbered r)
own_report accepted r = passing (is_numbered_of r.process) accepted (Numbered r) (same_bytes r.process)

pub other_report : (accepted : List Report) (q : Name) (r : NumberedReport) → q ≢ r.process → last_report q (accepted ++ Numbered r ∷ []) ≡ last_report q accepted
other_report accepted q r other = failing (is_numbered_of q) accepted (Numbered r) (other_bytes q r.process other)

pub other_target : (accepted : List Report) (q : Name) (r : NumberedReport) → q ≢ r.process → target_of q (accepted ++ Numbered r ∷ []) ≡ target_of q accepted
other_target accepted q r other = ap target_after (other_report accepted q r other)

-- the process itself has what its action leaves it
pub own_id : (accepted : List Report) (r : NumberedReport) → registered_id r.process (accepted ++ Numbered r ∷ []) ≡ id_kept r.stamp r.action
own_id accepted r = ap (λ o. id_after o (birth_report r.process (accepted ++ Numbered r ∷ []))) (own_report accepted r)

-- another one that is not born keeps its id
pub other_id : (accepted : List Report) (q : Name) (r : NumberedReport) → q ≢ r.process → is_birth_of q (Numbered r) ≡ false → registered_id q (accepted ++ Numbered r ∷ []) ≡ registered_id q accepted
other_id accepted q r other unborn =
    ap (λ o. id_after o (birth_report q (accepted ++ Numbered r ∷ []))) (other_report accepted q r other)
    ∙ ap (id_after (last_report q accepted)) (failing (is_birth_of q) accepted (Numbered r) unborn)

-- a child with no report has what it was given
pub child_id : (accepted : List Report) (r : NumberedReport) (forked : Forked) → forked.child ≢ r.process → last_report forked.child accepted ≡ None
    → registered_id forked.child (accepted ++ Numbered (doing r (Fork forked)) ∷ []) ≡ forked.given
child_id accepted r forked other unreported =
    ap (λ o. id_after o (birth_report forked.child (accepted ++ Numbered (doing r (Fork forked)) ∷ []))) (other_report accepted forked.child (doing r (Fork forked)) other ∙ unreported)
    ∙ ap (id_after None) (passing (is_birth_of forked.child) accepted (Numbered (doing r (Fork forked))) (same_bytes forked.child))
