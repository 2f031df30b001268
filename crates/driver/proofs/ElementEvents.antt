-- The events of the elements of a process, by the steps of a history, and that they are those of its reports.
use Rattle.std.proofs.Common.{◌≡◌, Bool, true, false, Option, Some, None, if◌then◌else◌, List, [], ◌∷◌, ◌++◌, refl, sym, ◌∙◌, ap, subst, inl, inr}
use Rattle.std.specs.Prelude.{map}
use Rattle.std.specs.List.{cons_option, filter_map}
use Rattle.std.specs.Option.{is_some}
use Rattle.std.specs.Str.{bytes_eq}
use Rattle.std.proofs.lemmas.Bool.{cases_Bool}
use Rattle.std.proofs.lemmas.List.{map-append, append-nil}
use Rattle.std.proofs.lemmas.List.Elements.{filter_map-append}
use Rattle.report_line.specs.declared.report.Report.{Report}
use Rattle.report_line.specs.declared.report.Report.TheVariants.{Begin}
use Rattle.report_line.specs.declared.step.StepKind.{StepKind}
use Rattle.report_line.specs.declared.step.StepKind.TheVariants.{Work, Check, Present, Send, Receive, Fork, Retire, Absorb}
use Rattle.report_line.specs.declared.step.Step.{Step}
use Rattle.report_line.specs.histories.History.{Name, History, Event, birth_of_root, event_of, birth_by}
use Rattle.report_line.specs.histories.StepReports.{report_by, reports}
use Rattle.chains.specs.Processes.{is_numbered_of, last_report, target_after, target_of}
use Rattle.chains.specs.Elements.{only_if, stable_made, stable_of, present_in, elements_of}
use Rattle.chains.proofs.Stepping.{passing, failing}
use Rattle.driver.specs.Stamping.{stamp_of}

-- BEGIN, and the reports of the history
abbrev pub reported_of : Name → History → List Report
reported_of root h = Begin root ∷ reports root h

abbrev pub list_of : {X : Type 0} → Option X → List X
list_of o = cons_option o []

-- ---- the elements that last

abbrev pub stable_by : History → Step → Name → StepKind → List Event
stable_by h s p Check = if bytes_eq p s.process then event_of h s ∷ [] else []
stable_by h s p (Fork c i) = if bytes_eq p c then birth_by h s c i ∷ [] else []
stable_by h s p _ = []

abbrev pub stable_events : Name → History → Name → List Event
stable_events root [] p = if bytes_eq p root then birth_of_root root ∷ [] else []
stable_events root (s ∷ h) p = stable_events root h p ++ stable_by h s p s.step_kind

one_if : (b : Bool) (e : Event) → list_of (only_if b (stamp_of e)) ≡ map stamp_of (if b then e ∷ [] else [])
one_if true e = refl
one_if false e = refl

stable_here : (root : Name) (h : History) (s : Step) (p : Name) (d : StepKind) → filter_map (stable_made p) (list_of (report_by root h s d)) ≡ map stamp_of (stable_by h s p d)
stable_here root h s p Work = refl
stable_here root h s p Check = one_if (bytes_eq p s.process) (event_of h s)
stable_here root h s p Present = refl
stable_here root h s p (Send m) = refl
stable_here root h s p (Receive m) = refl
stable_here root h s p (Fork c i) = one_if (bytes_eq p c) (birth_by h s c i)
stable_here root h s p (Retire q) = refl
stable_here root h s p (Absorb r) = refl

pub stable_is : (root : Name) (h : History) (p : Name) → stable_of p (reported_of root h) ≡ map stamp_of (stable_events root h p)
stable_is root [] p = one_if (bytes_eq p root) (birth_of_root root)
stable_is root (s ∷ h) p =
    filter_map-append (stable_made p) (reported_of root h) (list_of (report_by root h s s.step_kind))
    ∙ (ap (λ l. l ++ filter_map (stable_made p) (list_of (report_by root h s s.step_kind))) (stable_is root h p)
    ∙ (ap (λ l. map stamp_of (stable_events root h p) ++ l) (stable_here root h s p s.step_kind)
    ∙ sym (map-append stamp_of (stable_events root h p) (stable_by h s p s.step_kind))))

-- ---- the last report: a present state, or a retirement

abbrev pub present_by : StepKind → Event → Option Event → Option Event
present_by Work e before = before
present_by Check e before = None
present_by Present e before = Some e
present_by (Send m) e before = before
present_by (Receive m) e before = before
present_by (Fork c i) e before = None
present_by (Retire q) e before = None
present_by (Absorb r) e before = None

abbrev pub present_event : History → Name → Option Event
present_event [] p = None
present_event (s ∷ h) p = if bytes_eq p s.process then present_by s.step_kind (event_of h s) (present_event h p) else present_event h p

abbrev pub retired_by : StepKind → Bool → Bool
retired_by Work before = before
retired_by Check before = false
retired_by Present before = false
retired_by (Send m) before = before
retired_by (Receive m) before = before
retired_by (Fork c i) before = false
retired_by (Retire q) before = true
retired_by (Absorb r) before = false

abbrev pub retired_in : History → Name → Bool
retired_in [] p = false
retired_in (s ∷ h) p = if bytes_eq p s.process then retired_by s.step_kind (retired_in h p) else retired_in h p

-- what the last report of a process tells
record Tells (o : Option Report) (e : Option Event) (b : Bool) : Type 0 where
  pub present : present_in o ≡ map stamp_of (list_of e)
  pub retired : is_some (target_after o) ≡ b

-- the last report with those of a step
abbrev with_step : Name → Name → History → Step → StepKind → Option Report
with_step p root h s d = last_report p (reported_of root h ++ list_of (report_by root h s d))

told_by : (root : Name) (h : History) (s : Step) (p : Name) (d : StepKind) (e : Option Event) (b : Bool) → Tells (last_report p (reported_of root h)) e b → bytes_eq p s.process ≡ true
    → Tells (with_step p root h s d) (present_by d (event_of h s) e) (retired_by d b)
told_by root h s p Work e b before is = subst (λ l. Tells (last_report p l) e b) (sym (append-nil (reported_of root h))) before
told_by root h s p (Send m) e b before is = subst (λ l. Tells (last_report p l) e b) (sym (append-nil (reported_of root h))) before
told_by root h s p (Receive m) e b before is = subst (λ l. Tells (last_report p l) e b) (sym (append-nil (reported_of root h))) before
told_by root h s p Check e b before is = subst (λ o. Tells o None false) (sym (passing (is_numbered_of p) (reported_of root h) _ is)) (record { present = refl; retired = refl })
told_by root h s p Present e b before is = subst (λ o. Tells o (Some (event_of h s)) false) (sym (passing (is_numbered_of p) (reported_of root h) _ is)) (record { present = refl; retired = refl })
told_by root h s p (Fork c i) e b before is = subst (λ o. Tells o None false) (sym (passing (is_numbered_of p) (reported_of root h) _ is)) (record { present = refl; retired = refl })
told_by root h s p (Retire q) e b before is = subst (λ o. Tells o None true) (sym (passing (is_numbered_of p) (reported_of root h) _ is)) (record { present = refl; retired = refl })
told_by root h s p (Absorb r) e b before is = subst (λ o. Tells o None false) (sym (passing (is_numbered_of p) (reported_of root h) _ is)) (record { present = refl; retired = refl })

not_told_by : (root : Name) (h : History) (s : Step) (p : Name) (d : StepKind) → bytes_eq p s.process ≡ false → with_step p root h s d ≡ last_report p (reported_of root h)
not_told_by root h s p Work is = ap (last_report p) (append-nil (reported_of root h))
not_told_by root h s p (Send m) is = ap (last_report p) (append-nil (reported_of root h))
not_told_by root h s p (Receive m) is = ap (last_report p) (append-nil (reported_of root h))
not_told_by root h s p Check is = failing (is_numbered_of p) (reported_of root h) _ is
not_told_by root h s p Present is = failing (is_numbered_of p) (reported_of root h) _ is
not_told_by root h s p (Fork c i) is = failing (is_numbered_of p) (reported_of root h) _ is
not_told_by root h s p (Retire q) is = failing (is_numbered_of p) (reported_of root h) _ is
not_told_by root h s p (Absorb r) is = failing (is_numbered_of p) (reported_of root h) _ is

tells : (root : Name) (h : History) (p : Name) → Tells (last_report p (reported_of root h)) (present_event h p) (retired_in h p)
tells root [] p = record { present = refl; retired = refl }
tells root (s ∷ h) p =
    let before = tells root h p in
    elim (cases_Bool (bytes_eq p s.process)) [
      | inl same ↦
          subst (λ b. Tells (with_step p root h s s.step_kind) (if b then present_by s.step_kind (event_of h s) (present_event h p) else present_event h p) (if b then retired_by s.step_kind (retired_in h p) else retired_in h p))
          (sym same) (told_by root h s p s.step_kind (present_event h p) (retired_in h p) before same)
      | inr other ↦
          subst (λ b. Tells (with_step p root h s s.step_kind) (if b then present_by s.step_kind (event_of h s) (present_event h p) else present_event h p) (if b then retired_by s.step_kind (retired_in h p) else retired_in h p))
          (sym other) (subst (λ o. Tells o (present_event h p) (retired_in h p)) (sym (not_told_by root h s p s.step_kind other)) before)
    ]

pub retired_is : (root : Name) (h : History) (p : Name) → is_some (target_of p (reported_of root h)) ≡ retired_in h p
retired_is root h p = (tells root h p).retired

-- ---- all elements

abbrev pub element_events : Name → History → Name → List Event
element_events root h p = stable_events root h p ++ list_of (present_event h p)

pub elements_are : (root : Name) (h : History) (p : Name) → elements_of p (reported_of root h) ≡ map stamp_of (element_events root h p)
elements_are root h p =
    ap (λ l. l ++ present_in (last_report p (reported_of root h))) (stable_is root h p)
    ∙ (ap (λ l. map stamp_of (stable_events root h p) ++ l) (tells root h p).present
    ∙ sym (map-append stamp_of (stable_events root h p) (list_of (present_event h p))))
