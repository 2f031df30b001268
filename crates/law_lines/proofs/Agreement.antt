-- Accepted reports of steps agree with the history.
use Rattle.std.proofs.Common.{◌≡◌, ℕ, ◌+◌, ◌<◌, true, false, Some, List, [], ◌∷◌, ◌++◌, length, refl, sym, ◌∙◌, ap, subst, inl, inr, arith, append-nil, append_assoc}
use Rattle.std.specs.Prelude.{slice_get}
use Rattle.std.specs.Str.{bytes_eq}
use Rattle.std.proofs.lemmas.Bool.{cases_Bool, cond-true, cond-false}
use Rattle.std.proofs.lemmas.List.Elements.{filter-append, Contains-append_left, Contains-push}
use Rattle.std.proofs.lemmas.List.Sums.{length-filter}
use Rattle.std.proofs.lemmas.Option.{slice_get_within, same_Some}
use Rattle.report_line.specs.declared.report.NumberedReport.{NumberedReport}
use Rattle.report_line.specs.declared.report.Report.{Report}
use Rattle.report_line.specs.declared.report.Report.TheVariants.{Begin, Numbered}
use Rattle.report_line.specs.histories.History.{Name, History, Event}
use Rattle.report_line.specs.histories.StepReports.{reports, IsReportOf}
use Rattle.law_histories.proofs.Bytes.{bytes_same, bytes_are}
use Rattle.chains.specs.Processes.{is_numbered_of, reports_of, next_number, reports_by}
use Rattle.chains.specs.Folded.{IsFolded, nothing_folded, one_folded}
use Rattle.chains.specs.Agrees.{BeginsWith, AreFirstReports, Agrees, AreReportsOfSteps}
use Rattle.law_lines.proofs.Listed.{at_in, filter_in, at_append}
use Rattle.law_lines.proofs.Agreeing.{in_reports, number_at}

-- ---- one more report

nothing_more : (p : Name) (accepted : List Report) (r : Report) → is_numbered_of p r ≡ false → reports_by p (accepted ++ r ∷ []) ≡ reports_by p accepted
nothing_more p accepted r e =
    filter-append (is_numbered_of p) accepted (r ∷ []) ∙ ap (λ (l : List Report). reports_by p accepted ++ l) (cond-false (is_numbered_of p r) (r ∷ []) [] e) ∙ append-nil (reports_by p accepted)

one_report_more : (p : Name) (accepted : List Report) (r : Report) → is_numbered_of p r ≡ true → reports_by p (accepted ++ r ∷ []) ≡ reports_by p accepted ++ r ∷ []
one_report_more p accepted r e =
    filter-append (is_numbered_of p) accepted (r ∷ []) ∙ ap (λ (l : List Report). reports_by p accepted ++ l) (cond-true (is_numbered_of p r) (r ∷ []) [] e)

first_of_rest : (rest : List Report) (r : Report) → slice_get rest 0 ≡ Some r → (more : List Report) × (rest ≡ r ∷ more)
first_of_rest [] r is = absurd (cc)
first_of_rest (x ∷ more) r is = (more, ap (λ (y : Report). y ∷ more) (same_Some x r is))

-- the next report of a process is that of its next reporting step
next_report : (root : Name) (h : History) (accepted : List Report) (r : NumberedReport) → AreFirstReports root h accepted r.process → r.number ≡ next_number r.process accepted
    → (e : Event) × IsReportOf root h (Numbered r) e → AreFirstReports root h (accepted ++ Numbered r ∷ []) r.process
next_report root h accepted r first number of =
    let p = r.process in
    let front = reports_by p accepted in
    let there = at_in (reports_by p (reports root h)) (Numbered r) (filter_in (is_numbered_of p) (reports root h) (Numbered r) (in_reports root h (Numbered r) of.0 of.1) (bytes_same p p refl)) in
    let place : r.number ≡ there.0 + 1 = number_at root p h there.0 r there.2 in
    let count : length front ≡ reports_of p accepted = length-filter (is_numbered_of p) accepted in
    elim (at_append front first.0 there.0 (Numbered r) (ap (λ (l : List Report). slice_get l there.0) (sym first.1) ∙ there.2)) [
      | inl before ↦ (let within : there.0 < length front = slice_get_within front there.0 (Numbered r) before in absurd (omega arith))
      | inr next ↦
          (let index : there.0 ≡ length front + next.0 = next.1 in
          let begins : next.0 ≡ 0 = omega arith in
          let rest = first_of_rest first.0 (Numbered r) (ap (λ (k : ℕ). slice_get first.0 k) (sym begins) ∙ next.2) in (
            rest.0,
            first.1 ∙ ap (λ (l : List Report). front ++ l) rest.1 ∙ sym (append_assoc front (Numbered r ∷ []) rest.0)
                ∙ ap (λ (l : List Report). l ++ rest.0) (sym (one_report_more p accepted (Numbered r) (bytes_same p p refl))),
          ))
    ]

same_reports : (root : Name) (h : History) (p : Name) (xs ys : List Report) → reports_by p ys ≡ reports_by p xs → AreFirstReports root h xs p → AreFirstReports root h ys p
same_reports root h p xs ys is first = (first.0, first.1 ∙ ap (λ (l : List Report). l ++ first.0) (sym is))

are_first : (root : Name) (h : History) (accepted : List Report) → IsFolded accepted → AreReportsOfSteps root h accepted → (p : Name) → AreFirstReports root h accepted p
are_first root h _ nothing_folded steps p = (reports_by p (reports root h), refl)
are_first root h _ (one_folded before (Begin q) folded fit) steps p =
    same_reports root h p before (before ++ Begin q ∷ []) (nothing_more p before (Begin q) refl)
    (are_first root h before folded (λ s at. steps s (Contains-append_left before (Begin q ∷ []) (Numbered s) at)) p)
are_first root h _ (one_folded before (Numbered r) folded fit) steps p =
    let first = are_first root h before folded (λ s at. steps s (Contains-append_left before (Numbered r ∷ []) (Numbered s) at)) p in
    elim (cases_Bool (bytes_eq p r.process)) [
      | inl own ↦
          (let same : p ≡ r.process = bytes_are p r.process own in
          subst (AreFirstReports root h (before ++ Numbered r ∷ [])) (sym same)
          (next_report root h before r (subst (AreFirstReports root h before) same first) fit.number (steps r (Contains-push before (Numbered r)))))
      | inr other ↦ same_reports root h p before (before ++ Numbered r ∷ []) (nothing_more p before (Numbered r) other) first
    ]

pub reports_of_steps_agree : (root : Name) (h : History) (accepted : List Report) → IsFolded accepted → BeginsWith root accepted → AreReportsOfSteps root h accepted → Agrees root h accepted
reports_of_steps_agree root h accepted folded begins steps = record { begins = begins; first_reports = are_first root h accepted folded steps }

-- ---- fronts

pub fronts_agree : (root : Name) (h : History) (front rest : List Report) → Agrees root h (front ++ rest) → Agrees root h front
fronts_agree root h front rest agrees = record {
  begins = λ p there. agrees.begins p (Contains-append_left front rest (Begin p) there);
  first_reports = λ p.
      let first = agrees.first_reports p in (
        reports_by p rest ++ first.0,
        first.1 ∙ ap (λ (l : List Report). l ++ first.0) (filter-append (is_numbered_of p) front rest) ∙ append_assoc (reports_by p front) (reports_by p rest) first.0,
      );
}
