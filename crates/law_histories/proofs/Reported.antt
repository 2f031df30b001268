-- The event of the step whose report it is.
use Rattle.std.proofs.Common.{◌≡◌, suc, ◌+◌, ◌≤◌, ◌≢◌, true, false, Some, [], ◌∷◌, refl, sym, ◌∙◌, ap, subst, arith}
use Rattle.std.specs.Prelude.{Bool, ◌&&◌}
use Rattle.std.specs.Str.{bytes_eq}
use Rattle.std.proofs.lemmas.Bool.{cond-true, cond-false, cases_Bool}
use Rattle.id_tree.specs.IdTree.{IdTree}
use Rattle.stamp.specs.declared.stamp.Stamp.{Stamp}
use Rattle.report_line.specs.declared.report.ReportKind.{ReportKind}
use Rattle.report_line.specs.declared.report.ReportKind.TheVariants as reported
use Rattle.report_line.specs.declared.report.Forked.{Forked}
use Rattle.report_line.specs.declared.report.NumberedReport.{NumberedReport}
use Rattle.report_line.specs.declared.report.Report.{Report}
use Rattle.report_line.specs.declared.report.Report.TheVariants.{Begin, Numbered}
use Rattle.report_line.specs.declared.step.StepKind.{StepKind}
use Rattle.report_line.specs.declared.step.StepKind.TheVariants.{Work, Check, Present, Send, Receive, Fork, Retire, Absorb}
use Rattle.report_line.specs.declared.step.Step.{Step}
use Rattle.report_line.specs.histories.History.{Name, History, Birth, Does, Event, event_of, birth_by, Unborn, status}
use Rattle.report_line.specs.histories.Events.{Occurs, step, birth, earlier}
use Rattle.report_line.specs.histories.StepReports.{is_reported, reporting_steps, report_by, report_of, IsReportOf, newest, earlier as before_step}
use Rattle.law_histories.proofs.Bytes.{bytes_same, bytes_other}
use Rattle.law_histories.proofs.Status.{unborn_after}

-- a step with this kind of step is reported so
abbrev pub IsReportedAs : Step → Stamp → StepKind → ReportKind → Type 0
IsReportedAs s st d reported.Check = (d ≡ Check) × (s.stamp.id ≡ st.id)
IsReportedAs s st d reported.Present = (d ≡ Present) × (s.stamp.id ≡ st.id)
IsReportedAs s st d (reported.Fork f) = d ≡ Fork f.child f.given
IsReportedAs s st d (reported.Retire q) = d ≡ Retire q
IsReportedAs s st d (reported.Absorb r) = d ≡ Absorb r

-- what a report says of its step
pub record SaysOfStep (h : History) (s : Step) (d : StepKind) (r : NumberedReport) : Type 0 where
  pub process : r.process ≡ s.process
  pub number : r.number ≡ reporting_steps s.process h + 1
  pub values : s.stamp.events ≡ r.stamp.events
  pub is_reported : is_reported d ≡ true
  pub action : IsReportedAs s r.stamp d r.action

same_report : (q r : NumberedReport) → Some (Numbered q) ≡ Some (Numbered r) → q ≡ r
same_report q r e = cc

pub says : (root : Name) (h : History) (s : Step) (r : NumberedReport) (d : StepKind) → report_by root h s d ≡ Some (Numbered r) → SaysOfStep h s d r
says root h s r Work e = absurd (cc)
says root h s r (Send m) e = absurd (cc)
says root h s r (Receive m) e = absurd (cc)
says root h s r Check e = subst (SaysOfStep h s Check) (same_report _ r e) (record { process = refl; number = refl; values = refl; is_reported = refl; action = (refl, refl) })
says root h s r Present e = subst (SaysOfStep h s Present) (same_report _ r e) (record { process = refl; number = refl; values = refl; is_reported = refl; action = (refl, refl) })
says root h s r (Fork c i) e = subst (SaysOfStep h s (Fork c i)) (same_report _ r e) (record { process = refl; number = refl; values = refl; is_reported = refl; action = refl })
says root h s r (Retire q) e = subst (SaysOfStep h s (Retire q)) (same_report _ r e) (record { process = refl; number = refl; values = refl; is_reported = refl; action = refl })
says root h s r (Absorb q) e = subst (SaysOfStep h s (Absorb q)) (same_report _ r e) (record { process = refl; number = refl; values = refl; is_reported = refl; action = refl })

-- a report has a number
pub no_begin : (root : Name) (h : History) (s : Step) (p : Name) (a : StepKind) → report_by root h s a ≡ Some (Begin p) → ⊥
no_begin root h s p Work e = cc
no_begin root h s p (Send m) e = cc
no_begin root h s p (Receive m) e = cc
no_begin root h s p Check e = cc
no_begin root h s p Present e = cc
no_begin root h s p (Fork c i) e = cc
no_begin root h s p (Retire q) e = cc
no_begin root h s p (Absorb r) e = cc

-- what a report says of its event
abbrev pub IsEventAs : Event → Stamp → ReportKind → Type 0
IsEventAs e st reported.Check = (e.kind ≡ Does Check) × (e.id ≡ st.id)
IsEventAs e st reported.Present = (e.kind ≡ Does Present) × (e.id ≡ st.id)
IsEventAs e st (reported.Fork f) = e.kind ≡ Does (Fork f.child f.given)
IsEventAs e st (reported.Retire q) = e.kind ≡ Does (Retire q)
IsEventAs e st (reported.Absorb r) = e.kind ≡ Does (Absorb r)

pub record SaysOfEvent (root : Name) (h : History) (e : Event) (r : NumberedReport) : Type 0 where
  pub occurs : Occurs root h e
  pub process : e.process ≡ r.process
  pub values : e.values ≡ r.stamp.events
  pub action : IsEventAs e r.stamp r.action

as_event : (h : History) (s : Step) (st : Stamp) (b : ReportKind) → IsReportedAs s st s.step_kind b → IsEventAs (event_of h s) st b
as_event h s st reported.Check w = (ap Does w.0, w.1)
as_event h s st reported.Present w = (ap Does w.0, w.1)
as_event h s st (reported.Fork f) w = ap Does w
as_event h s st (reported.Retire q) w = ap Does w
as_event h s st (reported.Absorb r) w = ap Does w

event_says : (root : Name) (h : History) (s : Step) (r : NumberedReport) → SaysOfStep h s s.step_kind r → SaysOfEvent root (s ∷ h) (event_of h s) r
event_says root h s r w = record { occurs = step; process = sym w.process; values = w.values; action = as_event h s r.stamp r.action w.action }

says_earlier : (root : Name) (h : History) (s : Step) (e : Event) (r : NumberedReport) → SaysOfEvent root h e r → SaysOfEvent root (s ∷ h) e r
says_earlier root h s e r w = record { occurs = earlier w.occurs; process = w.process; values = w.values; action = w.action }

-- an event of which a report tells, as seen from the newest step
pub data ReportEntry (root : Name) (h : History) (s : Step) (r : Report) (e : Event) : Type 0 where
  of_step : report_of root h s ≡ Some r → e ≡ event_of h s → ReportEntry root h s r e
  of_earlier : IsReportOf root h r e → ReportEntry root h s r e

pub report_entry : {root : Name} {h : History} {s : Step} {r : Report} {e : Event} → IsReportOf root (s ∷ h) r e → ReportEntry root h s r e
report_entry (newest is) = of_step is refl
report_entry (before_step is) = of_earlier is

pub none_at_first : {root : Name} {r : Report} {e : Event} → IsReportOf root [] r e → ⊥
none_at_first is = elim is [ ]

pub event_of_report : (root : Name) (h : History) (e : Event) (r : NumberedReport) → IsReportOf root h (Numbered r) e → SaysOfEvent root h e r
event_of_report root [] e r is = absurd (none_at_first is)
event_of_report root (s ∷ h) e r is =
    elim (report_entry is) [
      | of_step made event ↦ subst (λ (x : Event). SaysOfEvent root (s ∷ h) x r) (sym event) (event_says root h s r (says root h s r s.step_kind made))
      | of_earlier before ↦ says_earlier root h s e r (event_of_report root h e r before)
    ]

-- the birth of the child of a fork
pub record IsBirthOf (root : Name) (h : History) (e : Event) (p : Name) (i : IdTree) (st : Stamp) : Type 0 where
  pub occurs : Occurs root h e
  pub process : e.process ≡ p
  pub kind : e.kind ≡ Birth
  pub id : e.id ≡ i
  pub values : e.values ≡ st.events

-- what a fork's report says of its step
forks : (s : Step) (st : Stamp) (d : StepKind) (b : ReportKind) (f : Forked) → b ≡ reported.Fork f → IsReportedAs s st d b → d ≡ Fork f.child f.given
forks s st d b f is w = subst (IsReportedAs s st d) is w

pub birth_of_report : (root : Name) (h : History) (e : Event) (r : NumberedReport) (f : Forked) → r.action ≡ reported.Fork f → IsReportOf root h (Numbered r) e
    → (b : Event) × IsBirthOf root h b f.child f.given r.stamp
birth_of_report root [] e r f forked is = absurd (none_at_first is)
birth_of_report root (s ∷ h) e r f forked is =
    elim (report_entry is) [
      | of_step made event ↦
          (let w = says root h s r s.step_kind made in
          (birth_by h s f.child f.given, record { occurs = birth (forks s r.stamp s.step_kind r.action f forked w.action); process = refl; kind = refl; id = refl; values = w.values }))
      | of_earlier before ↦
          (let w = birth_of_report root h e r f forked before in
          (w.0, record { occurs = earlier w.1.occurs; process = w.1.process; kind = w.1.kind; id = w.1.id; values = w.1.values }))
    ]

-- ---- the numbers of reports

steps_more : (p : Name) (s : Step) (h : History) → reporting_steps p h ≤ reporting_steps p (s ∷ h)
steps_more p s h = by (bytes_eq p s.process && is_reported s.step_kind) refl
  where
    by : (b : Bool) → (bytes_eq p s.process && is_reported s.step_kind) ≡ b → reporting_steps p h ≤ reporting_steps p (s ∷ h)
    by true e = (let is : reporting_steps p (s ∷ h) ≡ suc (reporting_steps p h) = cond-true _ _ _ e in omega arith)
    by false e = (let is : reporting_steps p (s ∷ h) ≡ reporting_steps p h = cond-false _ _ _ e in omega arith)

both_true : (a b : Bool) → a ≡ true → b ≡ true → (a && b) ≡ true
both_true a b e f = grind (arith, cases_Bool)

pub own_step : (h : History) (s : Step) (d : StepKind) (r : NumberedReport) → s.step_kind ≡ d → SaysOfStep h s d r
    → (r.number ≡ reporting_steps r.process h + 1) × (reporting_steps r.process (s ∷ h) ≡ suc (reporting_steps r.process h))
own_step h s d r is w = (
  w.number ∙ ap (λ (q : Name). reporting_steps q h + 1) (sym w.process),
  cond-true _ _ _ (both_true _ _ (bytes_same r.process s.process w.process) (ap is_reported is ∙ w.is_reported)),
)

pub number_up_to : (root : Name) (h : History) (e : Event) (r : NumberedReport) → IsReportOf root h (Numbered r) e → r.number ≤ reporting_steps r.process h
number_up_to root [] e r is = absurd (none_at_first is)
number_up_to root (s ∷ h) e r is =
    elim (report_entry is) [
      | of_step made event ↦ (let w = own_step h s s.step_kind r refl (says root h s r s.step_kind made) in let x = w.0 in let y = w.1 in omega arith)
      | of_earlier before ↦ (let w = number_up_to root h e r before in let more = steps_more r.process s h in omega arith)
    ]

not_both : (a b : Bool) → a ≡ false → (a && b) ≡ false
not_both a b is = grind (arith, cases_Bool)

-- Another process's step is no report of this one.
pub others_step : (p : Name) (s : Step) (h : History) → p ≢ s.process → reporting_steps p (s ∷ h) ≡ reporting_steps p h
others_step p s h differs = cond-false _ _ _ (not_both _ _ (bytes_other p s.process differs))

-- Who is not born has reported nothing.
pub unborn_reports : (root : Name) (h : History) (p : Name) → status root h p ≡ Unborn → reporting_steps p h ≡ 0
unborn_reports root [] p unborn = refl
unborn_reports root (s ∷ h) p unborn =
    let was = unborn_after root h s p unborn in
    others_step p s h was.not_actor ∙ unborn_reports root h p was.before
