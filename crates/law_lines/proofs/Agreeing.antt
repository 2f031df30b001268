-- The reports of a history by their numbers, and what agreement gives.
use Rattle.std.proofs.Common.{◌≡◌, ℕ, zero, suc, ◌+◌, ◌<◌, ◌≤◌, Bool, true, false, cond, Some, None, Option, List, [], ◌∷◌, ◌++◌, length, refl, sym, ◌∙◌, ap, subst, inl, inr, arith, length-append}
use Rattle.std.specs.Prelude.{Contains, slice_get, ◌&&◌}
use Rattle.std.specs.List.{cons_option}
use Rattle.std.specs.Str.{bytes_eq}
use Rattle.std.proofs.lemmas.Bool.{cond-false, cases_lt}
use Rattle.std.proofs.lemmas.List.Elements.{filter-append, Contains-append_left, Contains-append_right, Contains-append_cases, Contains-push}
use Rattle.std.proofs.lemmas.Option.{same_Some}
use Rattle.report_line.specs.declared.report.NumberedReport.{NumberedReport}
use Rattle.report_line.specs.declared.report.Report.{Report}
use Rattle.report_line.specs.declared.report.Report.TheVariants.{Begin, Numbered}
use Rattle.chains.specs.Processes.{is_numbered_of, reports_by}
use Rattle.report_line.specs.declared.step.StepKind.{StepKind}
use Rattle.report_line.specs.declared.step.StepKind.TheVariants.{Work, Check, Present, Send, Receive, Fork, Retire, Absorb}
use Rattle.report_line.specs.declared.step.Step.{Step}
use Rattle.report_line.specs.histories.History.{Name, History, Event, event_of}
use Rattle.report_line.specs.histories.StepReports.{is_reported, reporting_steps, report_by, report_of, reports, IsReportOf, newest, earlier}
use Rattle.chains.specs.Agrees.{Agrees}
use Rattle.law_histories.proofs.Bytes.{bytes_same, bytes_are}
use Rattle.law_histories.proofs.Status.{number_within}
use Rattle.law_lines.proofs.Listed.{in_cases, none_in, in_at, at_in, in_filter, filter_in, at_append, at_front}
use Rattle.law_histories.proofs.Reported.{no_begin, says, own_step, event_of_report, report_entry, of_step, of_earlier, none_at_first, number_up_to}

-- ---- a report of a history is that of a step

only_one : {X : Type 0} (o : Option X) (x : X) → Contains (cons_option o []) x → o ≡ Some x
only_one None x at = (let lt = at.1 in absurd (omega arith))
only_one (Some y) x at = elim (in_cases y x [] at) [ inl is ↦ ap (λ z. Some z) is | inr none ↦ absurd (none_in x none) ]

one_in : {X : Type 0} (o : Option X) (x : X) → o ≡ Some x → Contains (cons_option o []) x
one_in {X = X} o x is = subst (λ (p : Option X). Contains (cons_option p []) x) (sym is) (Contains-push [] x)

pub step_of : (root : Name) (h : History) (r : Report) → Contains (reports root h) r → (e : Event) × IsReportOf root h r e
step_of root [] r at = (let lt = at.1 in absurd (omega arith))
step_of root (s ∷ h) r at =
    elim (Contains-append_cases (reports root h) (cons_option (report_of root h s) []) r at) [
      | inl before ↦ (let w = step_of root h r before in (w.0, earlier w.1))
      | inr new ↦ (event_of h s, newest (only_one (report_of root h s) r new))
    ]

-- BEGIN is the report of no step
pub begin_no_report : (root : Name) (h : History) (p : Name) (e : Event) → ¬ IsReportOf root h (Begin p) e
begin_no_report root [] p e is = none_at_first is
begin_no_report root (s ∷ h) p e is =
    elim (report_entry is) [
      | of_step made event ↦ no_begin root h s p s.step_kind made
      | of_earlier before ↦ begin_no_report root h p e before
    ]

pub in_reports : (root : Name) (h : History) (r : Report) (e : Event) → IsReportOf root h r e → Contains (reports root h) r
in_reports root [] r e is = absurd (none_at_first is)
in_reports root (s ∷ h) r e is =
    elim (report_entry is) [
      | of_step made event ↦ Contains-append_right (reports root h) (cons_option (report_of root h s) []) r (one_in (report_of root h s) r made)
      | of_earlier before ↦ Contains-append_left (reports root h) (cons_option (report_of root h s) []) r (in_reports root h r e before)
    ]

-- ---- numbers count

and_false : (b : Bool) → (b && false) ≡ false
and_false true = refl
and_false false = refl

none_new : (b : Bool) → length (reports_by [] []) ≡ cond (b && false) 1 0
none_new b = sym (cond-false (b && false) 1 0 (and_false b))

one_new : (b : Bool) (r : Report) → length (cond b (r ∷ []) []) ≡ cond (b && true) 1 0
one_new true r = refl
one_new false r = refl

new_reports : (root p : Name) (h : History) (s : Step) (a : StepKind) → length (reports_by p (cons_option (report_by root h s a) [])) ≡ cond (bytes_eq p s.process && is_reported a) 1 0
new_reports root p h s Work = none_new (bytes_eq p s.process)
new_reports root p h s (Send m) = none_new (bytes_eq p s.process)
new_reports root p h s (Receive m) = none_new (bytes_eq p s.process)
new_reports root p h s Check = one_new (bytes_eq p s.process) _
new_reports root p h s Present = one_new (bytes_eq p s.process) _
new_reports root p h s (Fork c i) = one_new (bytes_eq p s.process) _
new_reports root p h s (Retire q) = one_new (bytes_eq p s.process) _
new_reports root p h s (Absorb r) = one_new (bytes_eq p s.process) _

one_more : (b : Bool) (n : ℕ) → n + cond b 1 0 ≡ cond b (suc n) n
one_more true n = omega arith
one_more false n = omega arith

split_new : (root p : Name) (h : History) (s : Step) → reports_by p (reports root (s ∷ h)) ≡ reports_by p (reports root h) ++ reports_by p (cons_option (report_of root h s) [])
split_new root p h s = filter-append (is_numbered_of p) (reports root h) (cons_option (report_of root h s) [])

pub count_reports : (root p : Name) (h : History) → length (reports_by p (reports root h)) ≡ reporting_steps p h
count_reports root p [] = refl
count_reports root p (s ∷ h) =
    let old : length (reports_by p (reports root h)) ≡ reporting_steps p h = count_reports root p h in
    let new : length (reports_by p (cons_option (report_of root h s) [])) ≡ cond (bytes_eq p s.process && is_reported s.step_kind) 1 0 = new_reports root p h s s.step_kind in
    ap (λ (l : List Report). length l) (split_new root p h s)
    ∙ length-append (reports_by p (reports root h)) (reports_by p (cons_option (report_of root h s) []))
    ∙ ap (λ (n : ℕ). n + length (reports_by p (cons_option (report_of root h s) []))) old
    ∙ ap (λ (n : ℕ). reporting_steps p h + n) new
    ∙ one_more (bytes_eq p s.process && is_reported s.step_kind) (reporting_steps p h)

single_by : (b : Bool) (x r : Report) (j : ℕ) → slice_get (cond b (x ∷ []) []) j ≡ Some r → (x ≡ r) × (j ≡ 0) × (b ≡ true)
single_by false x r j is = absurd (cc)
single_by true x r zero is = (same_Some x r is, refl, refl)
single_by true x r (suc j) is = absurd (cc)

single : (p : Name) (o : Option Report) (r : Report) (j : ℕ) → slice_get (reports_by p (cons_option o [])) j ≡ Some r → (o ≡ Some r) × (j ≡ 0) × (is_numbered_of p r ≡ true)
single p None r j is = absurd (cc)
single p (Some x) r j is = (let w = single_by (is_numbered_of p x) x r j is in (ap Some w.0, w.1, ap (is_numbered_of p) (sym w.0) ∙ w.2))

pub number_at : (root p : Name) (h : History) (i : ℕ) (r : NumberedReport) → slice_get (reports_by p (reports root h)) i ≡ Some (Numbered r) → r.number ≡ i + 1
number_at root p [] i r is = absurd (cc)
number_at root p (s ∷ h) i r is =
    elim (at_append (reports_by p (reports root h)) (reports_by p (cons_option (report_of root h s) [])) i (Numbered r) (ap (λ (l : List Report). slice_get l i) (sym (split_new root p h s)) ∙ is)) [
      | inl front ↦ number_at root p h i r front
      | inr back ↦
          (let one = single p (report_of root h s) (Numbered r) back.0 back.2 in
          let w = own_step h s s.step_kind r refl (says root h s r s.step_kind one.0) in
          let own : p ≡ r.process = bytes_are p r.process one.2 in
          let number : r.number ≡ reporting_steps p h + 1 = w.0 ∙ ap (λ (x : Name). reporting_steps x h + 1) (sym own) in
          let count : length (reports_by p (reports root h)) ≡ reporting_steps p h = count_reports root p h in
          let place : i ≡ length (reports_by p (reports root h)) + back.0 = back.1 in
          let zero_ : back.0 ≡ 0 = one.1 in
          omega arith)
    ]

-- ---- the reports of a process are in the order of their events

same_steps : (h : History) (p q : Name) → q ≡ p → reporting_steps q h ≡ reporting_steps p h
same_steps h p q same = ap (λ (x : Name). reporting_steps x h) same

pub number_order : (root : Name) (h : History) (r r' : NumberedReport) (e e' : Event) → r'.process ≡ r.process
    → IsReportOf root h (Numbered r) e → IsReportOf root h (Numbered r') e' → r'.number < r.number → e'.number < e.number
number_order root [] r r' e e' same is is' less = absurd (none_at_first is)
number_order root (s ∷ h) r r' e e' same is is' less =
    let steps : reporting_steps r'.process h ≡ reporting_steps r.process h = same_steps h r.process r'.process same in
    elim (report_entry is) [
      | of_step made event ↦
          (let w = own_step h s s.step_kind r refl (says root h s r s.step_kind made) in
          elim (report_entry is') [
            | of_step made' event' ↦
                (let w' = own_step h s s.step_kind r' refl (says root h s r' s.step_kind made') in
                let a : r.number ≡ reporting_steps r.process h + 1 = w.0 in
                let c : r'.number ≡ reporting_steps r'.process h + 1 = w'.0 in
                absurd (omega arith))
            | of_earlier before' ↦
                (let within : e'.number ≤ length h = number_within (event_of_report root h e' r' before').occurs in
                let number : e.number ≡ length (s ∷ h) = ap (λ (x : Event). x.number) event in
                omega arith)
          ])
      | of_earlier before ↦ elim (report_entry is') [
        | of_step made' event' ↦
            (let w' = own_step h s s.step_kind r' refl (says root h s r' s.step_kind made') in
            let c : r'.number ≡ reporting_steps r'.process h + 1 = w'.0 in
            let d : r.number ≤ reporting_steps r.process h = number_up_to root h e r before in
            absurd (omega arith))
        | of_earlier before' ↦ number_order root h r r' e e' same before before' less
      ]
    ]

-- ---- what agreement gives

-- an accepted report is the report of a step
pub agreed : (root : Name) (h : History) (accepted : List Report) (r : NumberedReport) → Agrees root h accepted
    → Contains accepted (Numbered r) → (e : Event) × IsReportOf root h (Numbered r) e
agreed root h accepted r agrees at =
    let p = r.process in
    let first = agrees.first_reports p in
    let own : Contains (reports_by p accepted) (Numbered r) = filter_in (is_numbered_of p) accepted (Numbered r) at (bytes_same p p refl) in
    let all : Contains (reports_by p (reports root h)) (Numbered r) = subst (λ (l : List Report). Contains l (Numbered r)) (sym first.1) (Contains-append_left (reports_by p accepted) first.0 (Numbered r) own) in
    step_of root h (Numbered r) (in_filter (is_numbered_of p) (reports root h) (Numbered r) all).0

-- with a report those of its process are accepted whose event is not later
pub accepted_before : (root : Name) (h : History) (accepted : List Report) (r r' : NumberedReport) (e e' : Event) → Agrees root h accepted → r'.process ≡ r.process
    → Contains accepted (Numbered r') → IsReportOf root h (Numbered r') e' → IsReportOf root h (Numbered r) e → e.number ≤ e'.number
    → Contains accepted (Numbered r)
accepted_before root h accepted r r' e e' agrees same at' is' is le =
    let p = r.process in
    let first = agrees.first_reports p in
    let front = reports_by p accepted in
    let place' = at_in front (Numbered r') (filter_in (is_numbered_of p) accepted (Numbered r') at' (bytes_same p r'.process (sym same))) in
    let lt' : place'.0 < length front = place'.1 in
    let m_is : r'.number ≡ place'.0 + 1 = number_at root p h place'.0 r' (ap (λ (l : List Report). slice_get l place'.0) first.1 ∙ at_front front first.0 place'.0 (Numbered r') place'.2) in
    let place = at_in (reports_by p (reports root h)) (Numbered r) (filter_in (is_numbered_of p) (reports root h) (Numbered r) (in_reports root h (Numbered r) e is) (bytes_same p p refl)) in
    let n_is : r.number ≡ place.0 + 1 = number_at root p h place.0 r place.2 in
    elim (cases_lt r'.number r.number) [
      | inl less ↦ (let order : e'.number < e.number = number_order root h r r' e e' same is is' less in absurd (omega arith))
      | inr no_less ↦ elim (at_append front first.0 place.0 (Numbered r) (ap (λ (l : List Report). slice_get l place.0) (sym first.1) ∙ place.2)) [
        | inl there ↦ (in_filter (is_numbered_of p) accepted (Numbered r) (in_at front place.0 (Numbered r) there)).0
        | inr back ↦ (let past : place.0 ≡ length front + back.0 = back.1 in absurd (omega arith))
      ]
    ]
