-- Births, and who is not known.
use Rattle.std.proofs.Common.{◌≡◌, ◌⊎◌, Bool, true, false, cond, List, [], ◌∷◌, ◌++◌, Option, Some, None, refl, sym, ◌∙◌, ap, subst, inl, inr, append-nil}
use Rattle.std.specs.List.{list_any, cons_option}
use Rattle.std.specs.Str.{bytes_eq}
use Rattle.std.proofs.lemmas.Bool.{cases_Bool, true≢false, or_parts}
use Rattle.std.proofs.lemmas.List.Elements.{filter_map-append}
use Rattle.std.proofs.lemmas.List.Folds.{list_any-append}
use Rattle.std.proofs.lemmas.Slice.Eq.{bytes_eq-Decides}
use Rattle.stamp.specs.declared.stamp.Stamp.{Stamp}
use Rattle.report_line.specs.declared.report.ReportKind.TheVariants.{Check, Present, Fork, Retire, Absorb}
use Rattle.report_line.specs.declared.report.Report.{Report}
use Rattle.report_line.specs.declared.report.Report.TheVariants.{Begin, Numbered}
use Rattle.chains.specs.Processes.{Name, IsKnown, is_numbered_of, is_birth_of}
use Rattle.chains.specs.Elements.{stable_by, stable_made, stable_of}
use Rattle.report_line.specs.declared.report.NumberedReport.{NumberedReport}
use Rattle.report_line.specs.declared.report.ReportKind.{ReportKind}
use Rattle.law_lines.proofs.Numbered.{is_born_by}
use Rattle.chains.specs.Folded.{IsFitAction, IsFit, IsFolded, nothing_folded, one_folded}
use Rattle.law_lines.proofs.Looking.{any_known, known_any}

stable_push : (p : Name) (accepted : List Report) (r : Report) → stable_of p (accepted ++ r ∷ []) ≡ stable_of p accepted ++ cons_option (stable_made p r) []
stable_push p accepted r = filter_map-append (stable_made p) accepted (r ∷ [])

stable_none : (p : Name) (accepted : List Report) (r : Report) → stable_made p r ≡ None → stable_of p (accepted ++ r ∷ []) ≡ stable_of p accepted
stable_none p accepted r is = stable_push p accepted r ∙ (ap (λ o. stable_of p accepted ++ cons_option o []) is ∙ append-nil (stable_of p accepted))

stable_some : (p : Name) (accepted : List Report) (r : Report) (e : Stamp) → stable_made p r ≡ Some e → stable_of p (accepted ++ r ∷ []) ≡ stable_of p accepted ++ e ∷ []
stable_some p accepted r e is = stable_push p accepted r ∙ ap (λ o. stable_of p accepted ++ cons_option o []) is

-- A report that makes a stable element of p is a birth of p, or a checkpoint by p.
only_if_some : {X : Type 0} (b : Bool) (x e : X) → cond b (Some x) None ≡ Some e → b ≡ true
only_if_some true x e is = refl
only_if_some false x e is = absurd (cc)

made_as : (p : Name) (r : NumberedReport) (a : ReportKind) (e : Stamp) → stable_by p r a ≡ Some e → (is_born_by p a ≡ true) ⊎ (bytes_eq p r.process ≡ true)
made_as p r Check e is = inr (only_if_some (bytes_eq p r.process) r.stamp e is)
made_as p r Present e is = absurd (cc)
made_as p r (Fork f) e is = inl (only_if_some (bytes_eq p f.child) _ e is)
made_as p r (Retire target) e is = absurd (cc)
made_as p r (Absorb retired) e is = absurd (cc)

pub made_by : (p : Name) (r : Report) (e : Stamp) → stable_made p r ≡ Some e → (is_birth_of p r ≡ true) ⊎ (is_numbered_of p r ≡ true)
made_by p (Begin q) e is = inl (only_if_some (bytes_eq p q) _ e is)
made_by p (Numbered r) e is = made_as p r r.action e is

-- A birth is of a process that was not known.
new_child : (p : Name) (accepted : List Report) (r : NumberedReport) (a : ReportKind) → IsFitAction accepted r a → is_born_by p a ≡ true → list_any (is_birth_of p) accepted ≡ false
new_child p accepted r (Fork f) fit is =
    let same : p ≡ f.child = (bytes_eq-Decides p f.child).0 is in
    elim (cases_Bool (list_any (is_birth_of p) accepted)) [
      | inl known ↦ absurd (fit.0 (subst (λ (q : Name). IsKnown accepted q) same (any_known accepted p known)))
      | inr new ↦ new
    ]
new_child p accepted r Check fit is = absurd (true≢false (sym is))
new_child p accepted r Present fit is = absurd (true≢false (sym is))
new_child p accepted r (Retire target) fit is = absurd (true≢false (sym is))
new_child p accepted r (Absorb retired) fit is = absurd (true≢false (sym is))

pub birth_is_new : (p : Name) (accepted : List Report) (r : Report) → IsFit accepted r → is_birth_of p r ≡ true → list_any (is_birth_of p) accepted ≡ false
birth_is_new p accepted (Begin q) fit is = ap (list_any (is_birth_of p)) fit
birth_is_new p accepted (Numbered r) fit is = new_child p accepted r r.action fit.fit is

-- Who reports is known.
pub reporter_is_known : (p : Name) (accepted : List Report) (r : Report) → IsFit accepted r → is_numbered_of p r ≡ true → list_any (is_birth_of p) accepted ≡ true
reporter_is_known p accepted (Begin q) fit is = absurd (true≢false (sym is))
reporter_is_known p accepted (Numbered r) fit is =
    let same : p ≡ r.process = (bytes_eq-Decides p r.process).0 is in
    known_any accepted p (subst (λ (x : Name). IsKnown accepted x) (sym same) fit.is_known)

-- Who is not known has no element.
unknown_next : (p : Name) (before : List Report) (r : Report) → IsFit before r → list_any (is_birth_of p) before ≡ false → is_birth_of p r ≡ false → stable_of p before ≡ []
    → (o : Option Stamp) → stable_made p r ≡ o → stable_of p (before ++ r ∷ []) ≡ []
unknown_next p before r fit unknown no_birth_here nothing_before None is = stable_none p before r is ∙ nothing_before
unknown_next p before r fit unknown no_birth_here nothing_before (Some e) is =
    elim (made_by p r e is) [
      | inl birth ↦ absurd (true≢false (sym birth ∙ no_birth_here))
      | inr own ↦ absurd (true≢false (sym (reporter_is_known p before r fit own) ∙ unknown))
    ]

pub unknown_lasts_not : {accepted : List Report} → IsFolded accepted → (p : Name) → list_any (is_birth_of p) accepted ≡ false → stable_of p accepted ≡ []
unknown_lasts_not nothing_folded p unknown = refl
unknown_lasts_not (one_folded before r folded fit) p unknown =
    let parts = or_parts (list_any (is_birth_of p) before) (list_any (is_birth_of p) (r ∷ [])) (sym (list_any-append (is_birth_of p) before (r ∷ [])) ∙ unknown) in
    unknown_next p before r fit parts.0 (or_parts (is_birth_of p r) false parts.1).0 (unknown_lasts_not folded p parts.0) (stable_made p r) refl
