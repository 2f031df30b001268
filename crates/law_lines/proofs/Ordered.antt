-- A place has one event, and the places of a process are in the order of their events.
use Rattle.std.proofs.Common.{◌≡◌, ◌≢◌, ℕ, suc, ◌<◌, ◌≤◌, true, false, Some, None, Option, List, ◌∷◌, length, refl, sym, ◌∙◌, ap, subst, inl, inr, arith}
use Rattle.std.specs.Prelude.{Contains, slice_get}
use Rattle.std.specs.Option.{option_map, option_map_or, is_some}
use Rattle.std.proofs.lemmas.Bool.{cond-true, cases_lt, true≢false}
use Rattle.event_tree.specs.EventTree.{EventTree, Leaf}
use Rattle.event_tree.specs.Values.{value_at, IsAtOrBelow}
use Rattle.stamp.specs.declared.stamp.Stamp.{Stamp}
use Rattle.report_line.specs.declared.report.ReportKind.{ReportKind}
use Rattle.report_line.specs.declared.report.ReportKind.TheVariants as reported
use Rattle.report_line.specs.declared.report.NumberedReport.{NumberedReport}
use Rattle.report_line.specs.declared.report.Report.{Report}
use Rattle.report_line.specs.declared.report.Report.TheVariants.{Begin, Numbered}
use Rattle.chains.specs.declared.position.Place.{Place}
use Rattle.chains.specs.declared.position.Position.TheVariants.{At, Retired}
use Rattle.chains.specs.Processes.{last_report, birth_report, first_of, events_after, last_events, target_in, target_after, target_of}
use Rattle.chains.specs.Elements.{elements_of, name_of, element}
use Rattle.chains.specs.Positions.{is_retired}
use Rattle.chains.specs.Knowledge.{retired_events}
use Rattle.chains.specs.Folded.{IsFolded}
use Rattle.knows_row.proofs.Rising.{below_later, elements_rise}
use Rattle.report_line.specs.declared.step.StepKind.TheVariants.{Fork as ForkStep, Retire}
use Rattle.report_line.specs.histories.History.{Name, History, Does, Event}
use Rattle.report_line.specs.histories.Lawful.{IsLawful, start, next}
use Rattle.report_line.specs.histories.Events.{Occurs}
use Rattle.chains.specs.Agrees.{Agrees}
use Rattle.law_lines.specs.Places.{IsEventAt, place}
use Rattle.law_histories.proofs.Bytes.{bytes_are}
use Rattle.law_histories.proofs.Status.{number_within}
use Rattle.law_histories.proofs.Steps.{fork_of, child_differs}
use Rattle.law_histories.proofs.Chain.{first_occurs, old, stepped, child, entry}
use Rattle.law_histories.proofs.Later.{rises_later}
use Rattle.law_histories.proofs.Reported.{IsEventAs, event_of_report}
use Rattle.law_lines.proofs.Agreeing.{agreed}
use Rattle.law_lines.proofs.Strict.{elements_differ}
use Rattle.law_lines.proofs.Placed.{last_there, IsAccepted, element_of}

number_of : {d e : Event} → e ≡ d → e.number ≡ d.number
number_of is = ap (λ (x : Event). x.number) is

process_of : {d e : Event} → e ≡ d → e.process ≡ d.process
process_of is = ap (λ (x : Event). x.process) is

-- ---- a process has one event of a number

pub same_event : {root : Name} {h : History} → IsLawful root h → (y z : Event) → Occurs root h y → Occurs root h z → y.process ≡ z.process → y.number ≡ z.number → y ≡ z
same_event start y z occurs_y occurs_z of_one number = first_occurs occurs_y ∙ sym (first_occurs occurs_z)
same_event {root} (next {h = h} {s = s} {before = b} lawful living allowed) y z occurs_y occurs_z of_one number =
    elim (entry occurs_y) [
      | old before_y ↦
          (let within : y.number ≤ length h = number_within before_y in
          elim (entry occurs_z) [
            | old before_z ↦ same_event lawful y z before_y before_z of_one number
            | stepped is ↦ (let late : z.number ≡ length (s ∷ h) = number_of is in absurd (omega arith))
            | child forks is ↦ (let late : z.number ≡ length (s ∷ h) = number_of is in absurd (omega arith))
          ])
      | stepped is ↦
          (let late : y.number ≡ length (s ∷ h) = number_of is in
          elim (entry occurs_z) [
            | old before_z ↦ (let within : z.number ≤ length h = number_within before_z in absurd (omega arith))
            | stepped is' ↦ is ∙ sym is'
            | child {c = c} {i = i} forks is' ↦
                absurd (child_differs root h b s c i living (fork_of root h b s c i allowed forks) (sym (process_of is') ∙ sym of_one ∙ process_of is))
          ])
      | child {c = c} {i = i} forks is ↦
          (let late : y.number ≡ length (s ∷ h) = number_of is in
          elim (entry occurs_z) [
            | old before_z ↦ (let within : z.number ≤ length h = number_within before_z in absurd (omega arith))
            | stepped is' ↦ absurd (child_differs root h b s c i living (fork_of root h b s c i allowed forks) (sym (process_of is) ∙ of_one ∙ process_of is'))
            | child {c = d} {i = j} forks' is' ↦
                (let action : ForkStep c i ≡ ForkStep d j = sym forks ∙ forks' in
                let name : c ≡ d = cc in
                let id : i ≡ j = cc in
                cc)
          ])
    ]

-- values that do not fall tell that the event is not earlier
pub not_earlier : {root : Name} {h : History} → IsLawful root h → (y z : Event) → Occurs root h y → Occurs root h z → y.process ≡ z.process → IsAtOrBelow y.values z.values → y.number ≤ z.number
not_earlier lawful y z occurs_y occurs_z of_one below =
    elim (cases_lt z.number y.number) [
      | inl less ↦
          (let up = rises_later lawful z y occurs_z occurs_y of_one less in
          let above : value_at z.values up.0 < value_at y.values up.0 = up.2 in
          let no_more : value_at y.values up.0 ≤ value_at z.values up.0 = below up.0 in
          absurd (omega arith))
      | inr no_less ↦ no_less
    ]

same_tree : (d e : EventTree) → d ≡ e → IsAtOrBelow d e
same_tree d e is t = (let h : value_at d t ≡ value_at e t = ap (λ (x : EventTree). value_at x t) is in omega arith)

pub same_name : (p q : Name) → Some p ≡ Some q → p ≡ q
same_name p q e = cc

pub same_values : (d e : EventTree) → Some d ≡ Some e → d ≡ e
same_values d e is = cc

pub one_event : (root : Name) (h : History) (accepted : List Report) → IsLawful root h → (x : Place) (d e : Event) → IsEventAt root h accepted x d → IsEventAt root h accepted x e → d ≡ e
one_event root h accepted lawful x d e at_d at_e =
    let process : d.process ≡ e.process = same_name _ _ (sym at_d.of_process ∙ at_e.of_process) in
    let values : d.values ≡ e.values = same_values _ _ (sym at_d.values ∙ at_e.values) in
    let up : d.number ≤ e.number = not_earlier lawful d e at_d.occurs at_e.occurs process (same_tree d.values e.values values) in
    let down : e.number ≤ d.number = not_earlier lawful e d at_e.occurs at_d.occurs (sym process) (same_tree e.values d.values (sym values)) in
    same_event lawful d e at_d.occurs at_e.occurs process (omega arith)

-- ---- elements are in order

pub elements_below : (accepted : List Report) → IsFolded accepted → (p j k : ℕ) (s t : Stamp) → j ≤ k → element accepted p j ≡ Some s → element accepted p k ≡ Some t → IsAtOrBelow s.events t.events
elements_below accepted folded p j k s t le is is' =
    let a = element_of accepted p j s is in
    let b = element_of accepted p k t is' in
    let name : b.name ≡ a.name = same_name _ _ (sym b.is_name ∙ a.is_name) in
    let j_is : j ≡ suc a.index = a.is_index in
    let k_is : k ≡ suc b.index = b.is_index in
    let there : slice_get (elements_of a.name accepted) b.index ≡ Some t = ap (λ (n : Name). slice_get (elements_of n accepted) b.index) (sym name) ∙ b.is_element in
    below_later (Leaf 0) (elements_of a.name accepted) (last_events a.name accepted) a.index b.index s t (elements_rise a.name accepted folded) (omega arith) a.is_element there

-- no two have the same events
pub elements_apart : (accepted : List Report) → IsFolded accepted → (p j k : ℕ) (s t : Stamp) → j < k → element accepted p j ≡ Some s → element accepted p k ≡ Some t → s.events ≢ t.events
elements_apart accepted folded p j k s t less is is' =
    let a = element_of accepted p j s is in
    let b = element_of accepted p k t is' in
    let name : b.name ≡ a.name = same_name _ _ (sym b.is_name ∙ a.is_name) in
    let j_is : j ≡ suc a.index = a.is_index in
    let k_is : k ≡ suc b.index = b.is_index in
    let there : slice_get (elements_of a.name accepted) b.index ≡ Some t = ap (λ (n : Name). slice_get (elements_of n accepted) b.index) (sym name) ∙ b.is_element in
    elements_differ accepted folded a.name a.index b.index s t (omega arith) a.is_element there

read_element : (o : Option Stamp) (e : EventTree) → option_map (λ (y : Stamp). y.events) o ≡ Some e → (s : Stamp) × (o ≡ Some s) × (s.events ≡ e)
read_element None e h = absurd cc
read_element (Some s) e h = (s, refl, cc)

pub element_at : (root : Name) (h : History) (accepted : List Report) (p k : ℕ) (e : Event) → IsEventAt root h accepted (place p (At k)) e → (s : Stamp) × (element accepted p k ≡ Some s) × (s.events ≡ e.values)
element_at root h accepted p k e at = read_element (element accepted p k) e.values at.values

pub in_order : (root : Name) (h : History) (accepted : List Report) → IsFolded accepted → IsLawful root h → (p j k : ℕ) (d e : Event) → j ≤ k
    → IsEventAt root h accepted (place p (At j)) d → IsEventAt root h accepted (place p (At k)) e → d.number ≤ e.number
in_order root h accepted folded lawful p j k d e le at_d at_e =
    let s = element_at root h accepted p j d at_d in
    let t = element_at root h accepted p k e at_e in
    let process : d.process ≡ e.process = same_name _ _ (sym at_d.of_process ∙ at_e.of_process) in
    not_earlier lawful d e at_d.occurs at_e.occurs process
    (subst (λ (x : EventTree). IsAtOrBelow x e.values) s.2 (subst (λ (x : EventTree). IsAtOrBelow s.0.events x) t.2 (elements_below accepted folded p j k s.0 t.0 le s.1 t.1)))

-- ---- retirements

pub record IsRetiredBy (accepted : List Report) (p : ℕ) (r : NumberedReport) (q : Name) : Type 0 where
  pub is_name : name_of accepted p ≡ Some r.process
  pub retires : r.action ≡ reported.Retire q
  pub contains : Contains accepted (Numbered r)
  pub last : last_report r.process accepted ≡ Some (Numbered r)
  pub events : retired_events accepted p ≡ Some r.stamp.events

retired_name : (accepted : List Report) (o : Option Name) → option_map_or (λ name. is_some (target_of name accepted)) o false ≡ true → (p : Name) × (o ≡ Some p) × (is_some (target_of p accepted) ≡ true)
retired_name accepted None e = absurd (true≢false (sym e))
retired_name accepted (Some p) e = (p, refl, e)

retires_by : (b : ReportKind) → is_some (target_in b) ≡ true → (q : Name) × (b ≡ reported.Retire q)
retires_by (reported.Retire q) e = (q, refl)
retires_by _ e = absurd (true≢false (sym e))

retires : (o : Option Report) → is_some (target_after o) ≡ true → (r : NumberedReport) × (q : Name) × (o ≡ Some (Numbered r)) × (r.action ≡ reported.Retire q)
retires None e = absurd (true≢false (sym e))
retires (Some (Begin p)) e = absurd (true≢false (sym e))
retires (Some (Numbered r)) e = let w = retires_by r.action e in (r, w.0, refl, w.1)

pub retired_by_report : (root : Name) (h : History) (accepted : List Report) → Agrees root h accepted → (p : ℕ) → is_retired accepted p ≡ true
    → (r : NumberedReport) × (q : Name) × IsRetiredBy accepted p r q
retired_by_report root h accepted agrees p e =
    let w = retired_name accepted (name_of accepted p) e in
    let r = retires (last_report w.0 accepted) w.2 in
    let there = last_there root h accepted agrees w.0 (Numbered r.0) r.2 in
    let own : w.0 ≡ r.0.process = bytes_are w.0 r.0.process there.1 in (
      r.0,
      r.1,
      record {
        is_name = w.1 ∙ ap Some own;
        retires = r.3;
        contains = there.0;
        last = ap (λ (m : Name). last_report m accepted) (sym own) ∙ r.2;
        events =
            cond-true (is_retired accepted p) (option_map (λ name. last_events name accepted) (name_of accepted p)) None e
            ∙ ap (option_map (λ name. last_events name accepted)) w.1
            ∙ ap (λ (o : Option Report). Some (events_after (first_of o (birth_report w.0 accepted)))) r.2;
      },
    )

pub retirement_event : (root : Name) (h : History) (accepted : List Report) → Agrees root h accepted → (p : ℕ) → is_retired accepted p ≡ true
    → (e : Event) × IsEventAt root h accepted (place p Retired) e × ((q : Name) × (e.kind ≡ Does (Retire q))) × IsAccepted root h accepted e.process e
retirement_event root h accepted agrees p e =
    let w = retired_by_report root h accepted agrees p e in
    let of = agreed root h accepted w.0 agrees w.2.contains in
    let says = event_of_report root h of.0 w.0 of.1 in (
      of.0,
      record { occurs = says.occurs; of_process = w.2.is_name ∙ ap Some (sym says.process); values = w.2.events ∙ ap Some (sym says.values) },
      (w.1, subst (IsEventAs of.0 w.0.stamp) w.2.retires says.action),
      (w.0, sym says.process, w.2.contains, of.1),
    )
