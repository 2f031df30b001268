-- The events of places.
use Rattle.std.proofs.Common.{◌≡◌, ℕ, zero, suc, true, Some, None, Option, List, [], ◌∷◌, refl, sym, ◌∙◌, ap, subst, ◌⊎◌, inl, inr}
use Rattle.std.specs.Prelude.{Contains, slice_get}
use Rattle.std.specs.Str.{bytes_eq}
use Rattle.std.specs.Option.{option_map, option_map_or}
use Rattle.std.proofs.lemmas.Option.{same_Some, cond_some}
use Rattle.id_tree.specs.IdTree.{One}
use Rattle.event_tree.specs.EventTree.{Leaf}
use Rattle.stamp.specs.declared.stamp.Stamp.{Stamp}
use Rattle.report_line.specs.declared.report.ReportKind.{ReportKind}
use Rattle.report_line.specs.declared.report.ReportKind.TheVariants as reported
use Rattle.report_line.specs.declared.report.Forked.{Forked}
use Rattle.report_line.specs.declared.report.NumberedReport.{NumberedReport}
use Rattle.report_line.specs.declared.report.Report.{Report}
use Rattle.report_line.specs.declared.report.Report.TheVariants.{Begin, Numbered}
use Rattle.chains.specs.declared.position.Position.TheVariants.{At}
use Rattle.chains.specs.Processes.{is_numbered_of, last_report}
use Rattle.chains.specs.Elements.{only_if, stable_by, stable_made, stable_of, present_by, present_in, elements_of, name_of, element}
use Rattle.chains.proofs.Keeps.{passes}
use Rattle.report_line.specs.declared.step.StepKind.TheVariants.{Check, Present}
use Rattle.report_line.specs.histories.History.{Name, History, EventKind, Birth, Does, Event, birth_of_root}
use Rattle.report_line.specs.histories.Events.{Occurs, root_birth, earlier}
use Rattle.law_histories.specs.Law.{IsRestorable, birth, check, presentation}
use Rattle.report_line.specs.histories.StepReports.{IsReportOf}
use Rattle.chains.specs.Agrees.{Agrees}
use Rattle.law_lines.specs.Places.{IsEventAt, place}
use Rattle.law_histories.proofs.Bytes.{bytes_are}
use Rattle.law_lines.proofs.Listed.{last_in, made_in, at_append}
use Rattle.law_histories.proofs.Reported.{IsEventAs, event_of_report, birth_of_report}
use Rattle.law_lines.proofs.Agreeing.{agreed}

pub root_occurs : (root : Name) (h : History) → Occurs root h (birth_of_root root)
root_occurs root [] = root_birth
root_occurs root (s ∷ h) = earlier (root_occurs root h)

-- the report of the event, by the process of this name, is accepted
abbrev pub IsAccepted : Name → History → List Report → Name → Event → Type 0
IsAccepted root h accepted p e = (r : NumberedReport) × (r.process ≡ p) × Contains accepted (Numbered r) × IsReportOf root h (Numbered r) e

-- the event of an element of the process of this name: its birth, or one whose report is accepted
pub record IsEventOf (root : Name) (h : History) (accepted : List Report) (p : Name) (s : Stamp) (e : Event) : Type 0 where
  pub occurs : Occurs root h e
  pub process : e.process ≡ p
  pub id : e.id ≡ s.id
  pub values : e.values ≡ s.events
  pub kind : IsRestorable e.kind
  pub source : (e.kind ≡ Birth) ⊎ IsAccepted root h accepted p e

restorable : (e : Event) (k : EventKind) → IsRestorable k → e.kind ≡ k → IsRestorable e.kind
restorable e k w is = subst IsRestorable (sym is) w

module _ (root : Name) (h : History) (accepted : List Report) (agrees : Agrees root h accepted) where
  root_event : (p q : Name) (s : Stamp) → Contains accepted (Begin q) → stable_made p (Begin q) ≡ Some s → (e : Event) × IsEventOf root h accepted p s e
  root_event p q s at made =
      let w = cond_some (bytes_eq p q) (record { id = One; events = Leaf 0 }) s made in (
        birth_of_root root,
        record {
          occurs = root_occurs root h;
          process = sym (bytes_are p q w.0 ∙ agrees.begins q at);
          id = ap (λ (t : Stamp). t.id) w.1;
          values = ap (λ (t : Stamp). t.events) w.1;
          kind = birth;
          source = inl refl;
        },
      )

  check_event : (p : Name) (r : NumberedReport) (s : Stamp) → Contains accepted (Numbered r) → r.action ≡ reported.Check → only_if (bytes_eq p r.process) r.stamp ≡ Some s
      → (e : Event) × IsEventOf root h accepted p s e
  check_event p r s at checks made =
      let w = cond_some (bytes_eq p r.process) r.stamp s made in
      let of = agreed root h accepted r agrees at in
      let says = event_of_report root h of.0 r of.1 in
      let checked = subst (IsEventAs of.0 r.stamp) checks says.action in (
        of.0,
        record {
          occurs = says.occurs;
          process = says.process ∙ sym (bytes_are p r.process w.0);
          id = checked.1 ∙ ap (λ (t : Stamp). t.id) w.1;
          values = says.values ∙ ap (λ (t : Stamp). t.events) w.1;
          kind = restorable of.0 (Does Check) check checked.0;
          source = inr (r, sym (bytes_are p r.process w.0), at, of.1);
        },
      )

  present_event : (p : Name) (r : NumberedReport) → Contains accepted (Numbered r) → r.action ≡ reported.Present → p ≡ r.process → (e : Event) × IsEventOf root h accepted p r.stamp e
  present_event p r at presents is =
      let of = agreed root h accepted r agrees at in
      let says = event_of_report root h of.0 r of.1 in
      let presented = subst (IsEventAs of.0 r.stamp) presents says.action in (
        of.0,
        record {
          occurs = says.occurs;
          process = says.process ∙ sym is;
          id = presented.1;
          values = says.values;
          kind = restorable of.0 (Does Present) presentation presented.0;
          source = inr (r, sym is, at, of.1);
        },
      )

  child_event : (p : Name) (r : NumberedReport) (s : Stamp) (f : Forked) → Contains accepted (Numbered r) → r.action ≡ reported.Fork f
      → only_if (bytes_eq p f.child) (record { id = f.given; events = r.stamp.events }) ≡ Some s → (e : Event) × IsEventOf root h accepted p s e
  child_event p r s f at forks made =
      let w = cond_some (bytes_eq p f.child) (record { id = f.given; events = r.stamp.events }) s made in
      let of = agreed root h accepted r agrees at in
      let born = birth_of_report root h of.0 r f forks of.1 in (
        born.0,
        record {
          occurs = born.1.occurs;
          process = born.1.process ∙ sym (bytes_are p f.child w.0);
          id = born.1.id ∙ ap (λ (t : Stamp). t.id) w.1;
          values = born.1.values ∙ ap (λ (t : Stamp). t.events) w.1;
          kind = restorable born.0 Birth birth born.1.kind;
          source = inl born.1.kind;
        },
      )

  made_by : (p : Name) (r : NumberedReport) (s : Stamp) → Contains accepted (Numbered r) → (b : ReportKind) → r.action ≡ b → stable_by p r b ≡ Some s → (e : Event) × IsEventOf root h accepted p s e
  made_by p r s at reported.Check is made = check_event p r s at is made
  made_by p r s at (reported.Fork f) is made = child_event p r s f at is made
  made_by p r s at _ is made = absurd (cc)

  made_event : (p : Name) (r : Report) (s : Stamp) → Contains accepted r → stable_made p r ≡ Some s → (e : Event) × IsEventOf root h accepted p s e
  made_event p (Begin q) s at made = root_event p q s at made
  made_event p (Numbered r) s at made = made_by p r s at r.action refl made

  present_made : (p : Name) (r : NumberedReport) (b : ReportKind) (j : ℕ) (s : Stamp) → Contains accepted (Numbered r) → p ≡ r.process → r.action ≡ b → slice_get (present_by r.stamp b) j ≡ Some s
      → (e : Event) × IsEventOf root h accepted p s e
  present_made p r reported.Present zero s at own is there = subst (λ (t : Stamp). (e : Event) × IsEventOf root h accepted p t e) (same_Some r.stamp s there) (present_event p r at is own)
  present_made p r reported.Present (suc j) s at own is there = absurd (cc)
  present_made p r _ j s at own is there = absurd (cc)

  one_present : (p : Name) (o : Option Report) (j : ℕ) (s : Stamp) → ((r : Report) → o ≡ Some r → Contains accepted r × (is_numbered_of p r ≡ true)) → slice_get (present_in o) j ≡ Some s
      → (e : Event) × IsEventOf root h accepted p s e
  one_present p None j s there is = absurd (cc)
  one_present p (Some (Begin q)) j s there is = absurd (cc)
  one_present p (Some (Numbered r)) j s there is = let at = there (Numbered r) refl in present_made p r r.action j s at.0 (bytes_are p r.process at.1) refl is

  pub last_there : (p : Name) (r : Report) → last_report p accepted ≡ Some r → Contains accepted r × (is_numbered_of p r ≡ true)
  last_there p r is = (last_in (is_numbered_of p) accepted r is, passes (is_numbered_of p) accepted r is)

  pub event_of_element : (p : Name) (i : ℕ) (s : Stamp) → slice_get (elements_of p accepted) i ≡ Some s → (e : Event) × IsEventOf root h accepted p s e
  event_of_element p i s is =
      elim (at_append (stable_of p accepted) (present_in (last_report p accepted)) i s is) [
        | inl front ↦ (let made = made_in (stable_made p) accepted i s front in made_event p made.0 s made.1 made.2)
        | inr back ↦ one_present p (last_report p accepted) back.0 s (last_there p) back.2
      ]

-- the name of a process that has this element
pub record IsElementOf (accepted : List Report) (p k : ℕ) (s : Stamp) : Type 0 where
  pub name : Name
  pub is_name : name_of accepted p ≡ Some name
  pub index : ℕ
  pub is_index : k ≡ suc index
  pub is_element : slice_get (elements_of name accepted) index ≡ Some s

named_by : (accepted : List Report) (o : Option Name) (i : ℕ) (s : Stamp) → slice_get (option_map_or (λ name. elements_of name accepted) o []) i ≡ Some s
    → (p : Name) × (o ≡ Some p) × (slice_get (elements_of p accepted) i ≡ Some s)
named_by accepted None i s is = absurd (cc)
named_by accepted (Some p) i s is = (p, refl, is)

pub element_of : (accepted : List Report) (p k : ℕ) (s : Stamp) → element accepted p k ≡ Some s → IsElementOf accepted p k s
element_of accepted p zero s is = absurd (cc)
element_of accepted p (suc i) s is =
    let w = named_by accepted (name_of accepted p) i s is in
    record { name = w.0; is_name = w.1; index = i; is_index = refl; is_element = w.2 }

pub element_event : (root : Name) (h : History) (accepted : List Report) → Agrees root h accepted → (p k : ℕ) (s : Stamp) → element accepted p k ≡ Some s
    → (e : Event) × IsEventAt root h accepted (place p (At k)) e × (e.id ≡ s.id) × IsRestorable e.kind
element_event root h accepted agrees p k s is =
    let w = element_of accepted p k s is in
    let e = event_of_element root h accepted agrees w.name w.index s w.is_element in (
      e.0,
      record {
        occurs = e.1.occurs;
        of_process = w.is_name ∙ ap Some (sym e.1.process);
        values = ap (option_map (λ (y : Stamp). y.events)) is ∙ ap Some (sym e.1.values);
      },
      e.1.id,
      e.1.kind,
    )

-- and with where it comes from
pub element_source : (root : Name) (h : History) (accepted : List Report) → Agrees root h accepted → (p k : ℕ) (s : Stamp) → element accepted p k ≡ Some s
    → (e : Event) × IsEventAt root h accepted (place p (At k)) e × ((e.kind ≡ Birth) ⊎ IsAccepted root h accepted e.process e)
element_source root h accepted agrees p k s is =
    let w = element_of accepted p k s is in
    let e = event_of_element root h accepted agrees w.name w.index s w.is_element in (
      e.0,
      record {
        occurs = e.1.occurs;
        of_process = w.is_name ∙ ap Some (sym e.1.process);
        values = ap (option_map (λ (y : Stamp). y.events)) is ∙ ap Some (sym e.1.values);
      },
      subst (λ (m : Name). (e.0.kind ≡ Birth) ⊎ IsAccepted root h accepted m e.0) (sym e.1.process) e.1.source,
    )
