-- The garbage line of a list is a closed cut of each longer list, so it is at or before each line of it.
use Rattle.std.proofs.Common.{◌≡◌, ℕ, zero, suc, ◌+◌, ◌-◌, ◌<◌, ◌≤◌, true, false, Some, None, Option, List, [], ◌∷◌, ◌++◌, length, get_or, refl, sym, ◌∙◌, ap, subst, inl, inr, arith, length-append}
use Rattle.std.specs.Prelude.{Contains, slice_get, replicate}
use Rattle.std.specs.Option.{option_map, option_map_or, is_some}
use Rattle.std.proofs.lemmas.Bool.{cases_lt, cond-true}
use Rattle.std.proofs.lemmas.List.{get_or_past, length-replicate}
use Rattle.std.proofs.lemmas.Option.{slice_get_cases, slice_get_within}
use Rattle.stamp.specs.declared.stamp.Stamp.{Stamp}
use Rattle.report_line.specs.declared.report.ReportKind.{ReportKind}
use Rattle.report_line.specs.declared.report.ReportKind.TheVariants as reported
use Rattle.report_line.specs.declared.report.NumberedReport.{NumberedReport}
use Rattle.report_line.specs.declared.report.Report.{Report}
use Rattle.report_line.specs.declared.report.Report.TheVariants.{Numbered}
use Rattle.chains.specs.declared.position.Position.{Position}
use Rattle.chains.specs.declared.position.Position.TheVariants.{At, Retired}
use Rattle.chains.specs.Processes.{known, last_report, birth_report, first_of, events_after, last_events, target_in, target_after, target_of}
use Rattle.chains.specs.Elements.{stable_of, present_in, elements_of, name_of, elements, stable, element}
use Rattle.chains.specs.Positions.{is_retired, rank, position_in, IsChosen, IsCut}
use Rattle.chains.specs.Knowledge.{retired_events}
use Rattle.chains.specs.Folded.{IsFolded, nothing_folded}
use Rattle.chains.proofs.Keeps.{named}
use Rattle.chains.proofs.Reaching.{fit_before}
use Rattle.chains.specs.Greatest.{IsConsistentCut, IsGreatestCut}
use Rattle.report_line.specs.histories.History.{Name, History, Event}
use Rattle.report_line.specs.histories.Lawful.{IsLawful}
use Rattle.chains.specs.Agrees.{Agrees}
use Rattle.law_lines.specs.TheLaw.{GarbageLineNeverFalls}
use Rattle.law_lines.specs.Places.{IsPremise, IsEventAt, place, IsUpTo, IsInCut, IsClosed}
use Rattle.law_lines.proofs.Listed.{at_append, at_front}
use Rattle.law_lines.proofs.Placed.{element_of}
use Rattle.law_lines.proofs.Ordered.{one_event, element_at, retired_by_report, same_name}
use Rattle.law_lines.proofs.Closing.{chosen_event, closed_is_consistent}
use Rattle.law_lines.proofs.Longer.{LeadsTo, EachIsFit, leads_on, front_folded, folded_on, agrees_back, name_on, stable_on, retirement_on}

-- ---- a cut with more processes, which are unborn

zeros : (n p : ℕ) → get_or (replicate n (At 0)) p (At 0) ≡ At 0
zeros zero p = refl
zeros (suc n) zero = refl
zeros (suc n) (suc p) = zeros n p

with_zeros : (cut : List Position) (n p : ℕ) → position_in (cut ++ replicate n (At 0)) p ≡ position_in cut p
with_zeros [] n p = zeros n p
with_zeros (k ∷ cut) n zero = refl
with_zeros (k ∷ cut) n (suc p) = with_zeros cut n p

-- ---- a retirement, from the last report

retired_from_last : (accepted : List Report) (p : ℕ) (name : Name) (r : NumberedReport) (q : Name) → name_of accepted p ≡ Some name → last_report name accepted ≡ Some (Numbered r) → r.action ≡ reported.Retire q
    → (is_retired accepted p ≡ true) × (retired_events accepted p ≡ Some r.stamp.events)
retired_from_last accepted p name r q is last retires =
    let retired : is_retired accepted p ≡ true =
    ap (λ (o : Option Name). option_map_or (λ x. is_some (target_of x accepted)) o false) is ∙ ap (λ (o : Option Report). is_some (target_after o)) last ∙ ap (λ (b : ReportKind). is_some (target_in b)) retires
    in (
      retired,
      cond-true (is_retired accepted p) (option_map (λ x. last_events x accepted) (name_of accepted p)) None retired
          ∙ ap (option_map (λ x. last_events x accepted)) is
          ∙ ap (λ (o : Option Report). Some (events_after (first_of o (birth_report name accepted)))) last,
    )

stable_is : (accepted : List Report) (p : ℕ) (name : Name) → name_of accepted p ≡ Some name → stable accepted p ≡ stable_of name accepted
stable_is accepted p name is = ap (λ (o : Option Name). option_map_or (λ x. stable_of x accepted) o []) is

elements_are : (accepted : List Report) (p : ℕ) (name : Name) → name_of accepted p ≡ Some name → elements accepted p ≡ elements_of name accepted
elements_are accepted p name is = ap (λ (o : Option Name). option_map_or (λ x. elements_of x accepted) o []) is

module _ (root : Name) (h : History) (front accepted : List Report) (folded : IsFolded front) (way : LeadsTo front accepted) (lawful : IsLawful root h) (agrees : Agrees root h accepted)
    (all : List ℕ) where
  before : IsPremise root h front
  before = record { folded = folded; lawful = lawful; agrees = agrees_back way root h agrees }

  after : IsPremise root h accepted
  after = record { folded = folded_on folded way; lawful = lawful; agrees = agrees }

  -- an element that lasts
  stable_element : (p i : ℕ) (s : Stamp) → element front p (suc i) ≡ Some s → suc i ≤ length (stable front p) → (name : Name) × (name_of front p ≡ Some name) × (slice_get (stable_of name front) i ≡ Some s)
  stable_element p i s is within =
      let w = element_of front p (suc i) s is in
      let index : suc i ≡ suc w.index = w.is_index in
      let same : w.index ≡ i = omega arith in
      let long : length (stable front p) ≡ length (stable_of w.name front) = ap (λ (l : List Stamp). length l) (stable_is front p w.name w.is_name) in
      let there : slice_get (elements_of w.name front) i ≡ Some s = ap (λ (j : ℕ). slice_get (elements_of w.name front) j) (sym same) ∙ w.is_element in
      elim (at_append (stable_of w.name front) (present_in (last_report w.name front)) i s there) [
        | inl lasts ↦ (w.name, w.is_name, lasts)
        | inr past ↦ (let out : i ≡ length (stable_of w.name front) + past.0 = past.1 in absurd (omega arith))
      ]

  element_on : (p i : ℕ) (s : Stamp) → element front p (suc i) ≡ Some s → suc i ≤ length (stable front p) → (element accepted p (suc i) ≡ Some s) × (suc i ≤ length (stable accepted p))
  element_on p i s is within =
      let w = stable_element p i s is within in
      let name = name_on way p w.0 w.1 in
      let there = stable_on way w.0 i s w.2 in
      let inside : i < length (stable_of w.0 accepted) = slice_get_within (stable_of w.0 accepted) i s there in
      let long : length (stable accepted p) ≡ length (stable_of w.0 accepted) = ap (λ (l : List Stamp). length l) (stable_is accepted p w.0 name) in
      (ap (λ (l : List Stamp). slice_get l i) (elements_are accepted p w.0 name) ∙ at_front (stable_of w.0 accepted) (present_in (last_report w.0 accepted)) i s there, omega arith)

  retired_on : (p : ℕ) → is_retired front p ≡ true → (is_retired accepted p ≡ true) × (retired_events accepted p ≡ retired_events front p)
  retired_on p is =
      let w = retired_by_report root h front before.agrees p is in
      let r = w.0 in
      let here = retired_from_last front p r.process r w.1 w.2.is_name w.2.last w.2.retires in
      let target = ap target_after w.2.last ∙ ap target_in w.2.retires in
      let last = retirement_on way r.process w.1 target ∙ w.2.last in
      let there = retired_from_last accepted p r.process r w.1 (name_on way p r.process w.2.is_name) last w.2.retires in
      (there.0, there.1 ∙ sym here.1)

  -- the events of its places stay
  event_on : (p : ℕ) (k : Position) (e : Event) → Contains all p → IsChosen front all p k → IsEventAt root h front (place p k) e → IsEventAt root h accepted (place p k) e
  event_on p (At zero) e failed chosen at = (let none = at.values in absurd (cc))
  event_on p (At (suc i)) e failed (inl is) at = absurd (cc)
  event_on p (At (suc i)) e failed (inr w) at =
      let s = element_at root h front p (suc i) e at in
      let there = element_on p i s.0 s.1 (w.2 failed) in
      record { occurs = at.occurs; of_process = name_on way p e.process at.of_process; values = ap (option_map (λ (y : Stamp). y.events)) there.0 ∙ ap Some s.2 }
  event_on p Retired e failed (inl is) at = absurd (cc)
  event_on p Retired e failed (inr w) at = record { occurs = at.occurs; of_process = name_on way p e.process at.of_process; values = (retired_on p w).1 ∙ at.values }

  chosen_on : (failed : List ℕ) (p : ℕ) (k : Position) → Contains all p → IsChosen front all p k → IsChosen accepted failed p k
  chosen_on failed p k there (inl is) = inl is
  chosen_on failed p (At zero) there (inr w) = inl refl
  chosen_on failed p (At (suc i)) there (inr w) =
      let within : suc i ≤ length (elements front p) = w.1 in
      elim (slice_get_cases (elements front p) i).1 [
        | inl s ↦
            (let on = element_on p i s.0 s.2 (w.2 there) in
            let inside : i < length (elements accepted p) = slice_get_within (elements accepted p) i s.0 on.0 in
            let lasts : suc i ≤ length (stable accepted p) = on.1 in
            inr (omega arith, omega arith, λ is_failed. lasts))
        | inr past ↦ (let out : length (elements front p) ≤ i = past.0 in absurd (omega arith))
      ]
  chosen_on failed p Retired there (inr w) = inr (retired_on p w).0

  plain : (p : ℕ) (k : Position) → IsChosen front all p k → IsChosen front [] p k
  plain p k (inl is) = inl is
  plain p (At j) (inr w) = inr (w.0, w.1, λ there. (let lt = there.1 in absurd (omega arith)))
  plain p Retired (inr w) = inr w

  up_on : (p : ℕ) (k : Position) (e : Event) → Contains all p → IsChosen front all p k → IsUpTo root h front p k e → IsUpTo root h accepted p k e
  up_on p (At zero) e failed chosen up = up
  up_on p (At (suc i)) e failed chosen up = (up.0, event_on p (At (suc i)) up.0 failed chosen up.1, up.2)
  up_on p Retired e failed chosen up = up

  up_back : (p : ℕ) (k : Position) (e : Event) → Contains all p → IsChosen front all p k → IsUpTo root h accepted p k e → IsUpTo root h front p k e
  up_back p (At zero) e failed chosen up = up
  up_back p (At (suc i)) e failed chosen up =
      let y = chosen_event root h front before p i (plain p (At (suc i)) chosen) in
      let is : up.0.number ≡ y.0.number = ap (λ (x : Event). x.number) (one_event root h accepted lawful (place p (At (suc i))) up.0 y.0 up.1 (event_on p (At (suc i)) y.0 failed chosen y.1)) in
      let within : e.number ≤ up.0.number = up.2 in
      (y.0, y.1, omega arith)
  up_back p Retired e failed chosen up = up

  pub as_many : length (known front) ≤ length (known accepted)
  as_many =
      elim (cases_lt (length (known accepted)) (length (known front))) [
        | inl fewer ↦
            (let w = named front (length (known accepted)) fewer in
            let inside : length (known accepted) < length (known accepted) = slice_get_within (known accepted) (length (known accepted)) w.0 (name_on way (length (known accepted)) w.0 w.1) in
            absurd (omega arith))
        | inr no_fewer ↦ no_fewer
      ]

  module _ (every : (p : ℕ) → p < length (known front) → Contains all p) (garbage : List Position) (is_cut : IsCut front all garbage) where
    abbrev pub longer : List Position
    longer = garbage ++ replicate (length (known accepted) - length (known front)) (At 0)

    pub same_position : (p : ℕ) → position_in longer p ≡ position_in garbage p
    same_position p = with_zeros garbage (length (known accepted) - length (known front)) p

    pub unborn_later : (p : ℕ) → length (known front) ≤ p → position_in longer p ≡ At 0
    unborn_later p past = same_position p ∙ get_or_past garbage p (At 0) (let complete : length garbage ≡ length (known front) = is_cut.complete in omega arith)

    pub longer_is_cut : (failed : List ℕ) → IsCut accepted failed longer
    longer_is_cut failed = record {
      complete =
          (let complete : length garbage ≡ length (known front) = is_cut.complete in
          let more : length (replicate (length (known accepted) - length (known front)) (At 0)) ≡ length (known accepted) - length (known front) = length-replicate (length (known accepted) - length (known front)) (At 0) in
          let both : length longer ≡ length garbage + length (replicate (length (known accepted) - length (known front)) (At 0)) = length-append garbage (replicate (length (known accepted) - length (known front)) (At 0)) in
          let room : length (known front) ≤ length (known accepted) = as_many in
          omega arith);
      chosen = λ p lt.
          elim (cases_lt p (length (known front))) [
            | inl old ↦ subst (IsChosen accepted failed p) (sym (same_position p)) (chosen_on failed p (position_in garbage p) (every p old) (is_cut.chosen p old))
            | inr new ↦ inl (unborn_later p new)
          ];
    }

    -- the events of the cut are the same
    in_longer : (e : Event) → IsInCut root h front garbage e → IsInCut root h accepted longer e
    in_longer e w =
        let room : length (known front) ≤ length (known accepted) = as_many in
        let old : w.process < length (known front) = w.is_known in
        record {
          process = w.process;
          is_known = omega arith;
          of_process = name_on way w.process e.process w.of_process;
          up_to = subst (λ (k : Position). IsUpTo root h accepted w.process k e) (sym (same_position w.process))
              (up_on w.process (position_in garbage w.process) e (every w.process old) (is_cut.chosen w.process old) w.up_to);
        }

    in_garbage : (e : Event) → IsInCut root h accepted longer e → IsInCut root h front garbage e
    in_garbage e w =
        elim (cases_lt w.process (length (known front))) [
          | inl old ↦
              (let n = named front w.process old in
              let same : n.0 ≡ e.process = same_name _ _ (sym (name_on way w.process n.0 n.1) ∙ w.of_process) in
              record {
                process = w.process;
                is_known = old;
                of_process = n.1 ∙ ap (λ (x : Name). Some x) same;
                up_to = up_back w.process (position_in garbage w.process) e (every w.process old) (is_cut.chosen w.process old)
                    (subst (λ (k : Position). IsUpTo root h accepted w.process k e) (same_position w.process) w.up_to);
              })
          | inr new ↦ absurd (subst (λ (k : Position). IsUpTo root h accepted w.process k e) (unborn_later w.process new) w.up_to)
        ]

    longer_is_closed : IsClosed root h front garbage → IsClosed root h accepted longer
    longer_is_closed closed x y edge inside = in_longer x (closed x y edge (in_garbage y inside))

    pub longer_is_consistent : (failed : List ℕ) → IsClosed root h front garbage → IsConsistentCut accepted failed longer
    longer_is_consistent failed closed = record {
      is_cut = longer_is_cut failed;
      consistent = (closed_is_consistent root h accepted after failed longer (longer_is_cut failed)).0 (longer_is_closed closed);
    }

    never_falls : (failed : List ℕ) (line : List Position) → IsClosed root h front garbage → IsGreatestCut accepted failed line → (p : ℕ) → p < length (known front)
        → rank accepted p (position_in garbage p) ≤ rank accepted p (position_in line p)
    never_falls failed line closed greatest p lt =
        let room : length (known front) ≤ length (known accepted) = as_many in
        subst (λ (k : Position). rank accepted p k ≤ rank accepted p (position_in line p)) (same_position p) (greatest.greatest longer (longer_is_consistent failed closed) p (omega arith))

along : (root : Name) (h : History) (front accepted : List Report) → IsFolded front → LeadsTo front accepted → IsLawful root h → Agrees root h accepted
    → (all failed : List ℕ) (garbage line : List Position) → ((p : ℕ) → p < length (known front) → Contains all p)
    → IsGreatestCut front all garbage → IsGreatestCut accepted failed line
    → (p : ℕ) → p < length (known front) → rank accepted p (position_in garbage p) ≤ rank accepted p (position_in line p)
along root h front accepted folded way lawful agrees all failed garbage line every lowest greatest p lt =
    let is_cut = lowest.is_one.is_cut in
    let premise : IsPremise root h front = record { folded = folded; lawful = lawful; agrees = agrees_back way root h agrees } in
    let closed = (closed_is_consistent root h front premise all garbage is_cut).1 lowest.is_one.consistent in
    never_falls root h front accepted folded way lawful agrees all every garbage is_cut failed line closed greatest p lt

pub garbage_line_never_falls : GarbageLineNeverFalls
garbage_line_never_falls root h front rest folded lawful agrees all failed garbage line every lowest greatest p lt =
    let each : EachIsFit (front ++ rest) = λ before after r same. fit_before (front ++ rest) before after r folded same in
    along root h front (front ++ rest) (front_folded front [] rest nothing_folded each) (leads_on rest front each) lawful agrees all failed garbage line every lowest greatest p lt
