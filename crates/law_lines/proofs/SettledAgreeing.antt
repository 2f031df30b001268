-- What is kept of an accepted list agrees with what is kept of the history.
use Rattle.std.proofs.Common.{◌≡◌, ℕ, zero, suc, ◌+◌, ◌≤◌, ◌<◌, Bool, true, false, List, [], ◌∷◌, Some, length, refl, sym, ◌∙◌, ap, subst, inl, inr, arith}
use Rattle.std.specs.Prelude.{Contains, slice_get, nat_le, ◌↔◌, ◌++◌}
use Rattle.std.proofs.lemmas.List.Elements.{Contains-append_cases}
use Rattle.std.specs.Option.{option_map}
use Rattle.std.proofs.lemmas.Bool.{true≢false}
use Rattle.stamp.specs.declared.stamp.Stamp.{Stamp}
use Rattle.report_line.specs.declared.report.NumberedReport.{NumberedReport}
use Rattle.report_line.specs.declared.report.Report.{Report}
use Rattle.report_line.specs.declared.report.Report.TheVariants.{Begin, Numbered}
use Rattle.report_line.specs.histories.History.{Name, History, Event}
use Rattle.report_line.specs.histories.StepReports.{reporting_steps, IsReportOf}
use Rattle.chains.specs.declared.position.Position.{Position}
use Rattle.chains.specs.declared.position.Position.TheVariants.{At, Retired}
use Rattle.chains.specs.Processes.{known, IsKnown}
use Rattle.chains.specs.Elements.{name_of}
use Rattle.chains.specs.Positions.{position_in, IsChosen, IsCut}
use Rattle.chains.specs.Greatest.{IsConsistentCut}
use Rattle.chains.specs.Agrees.{BeginsWith, AreReportsOfSteps}
use Rattle.chains.specs.Folded.{IsFit, IsFolded, nothing_folded, one_folded}
use Rattle.chains.proofs.Certain.{known_or_not}
use Rattle.chains.proofs.Counting.{elements_is}
use Rattle.chains.proofs.Stepping.{still_known}
use Rattle.law_histories.proofs.Status.{number_within}
use Rattle.law_histories.proofs.Reported.{says, own_step, event_of_report, report_entry, of_step, of_earlier, none_at_first, number_up_to}
use Rattle.law_lines.specs.Places.{IsPremise, place, IsUpTo, IsInCut}
use Rattle.law_lines.proofs.Listed.{at_in, in_at, in_filter, in_cases}
use Rattle.law_lines.proofs.Known.{same_number_of}
use Rattle.law_lines.proofs.Ordered.{one_event}
use Rattle.law_lines.proofs.Closing.{none_failed, chosen_event, closed_is_consistent}
use Rattle.law_lines.proofs.Agreeing.{agreed}
use Rattle.law_lines.proofs.Agreement.{reports_of_steps_agree}
use Rattle.law_histories.specs.Kept.{Cut, IsClosed, kept}
use Rattle.law_histories.proofs.Keeping.{kept_is_lawful}
use Rattle.law_histories.proofs.Carried.{each_report_is_kept}
use Rattle.law_lines.specs.Settled.{limit, limits_of, is_settled, settled}
use Rattle.law_lines.specs.Agreeing.{HasEventsOf, EachLineHasEvents}
use Rattle.law_lines.proofs.Folding.{within, is_within}
use Rattle.law_lines.proofs.Limits.{limit_named, maker_in, maker_makes, maker_events, made_at}

-- ---- reports of steps in order

-- a report's number is at least 1
pub number_first : (root : Name) (h : History) (e : Event) (r : NumberedReport) → IsReportOf root h (Numbered r) e → 1 ≤ r.number
number_first root [] e r is = absurd (none_at_first is)
number_first root (s ∷ h) e r is =
    elim (report_entry is) [
      | of_step made event ↦ (let w = own_step h s s.step_kind r refl (says root h s r s.step_kind made) in let number : r.number ≡ reporting_steps r.process h + 1 = w.0 in omega arith)
      | of_earlier before ↦ number_first root h e r before
    ]

-- of two reports of a process the one with the lower number, or the same, is of an event that is not later
pub numbers_in_order : (root : Name) (h : History) (r r' : NumberedReport) (e e' : Event) → r'.process ≡ r.process
    → IsReportOf root h (Numbered r) e → IsReportOf root h (Numbered r') e' → r.number ≤ r'.number → e.number ≤ e'.number
numbers_in_order root [] r r' e e' same is is' less = absurd (none_at_first is)
numbers_in_order root (s ∷ h) r r' e e' same is is' less =
    let steps : reporting_steps r'.process h ≡ reporting_steps r.process h = ap (λ (x : Name). reporting_steps x h) same in
    elim (report_entry is) [
      | of_step made event ↦
          (let number : e.number ≡ length (s ∷ h) = ap (λ (x : Event). x.number) event in
          let w = own_step h s s.step_kind r refl (says root h s r s.step_kind made) in
          let mine : r.number ≡ reporting_steps r.process h + 1 = w.0 in
          elim (report_entry is') [
            | of_step made' event' ↦ (let number' : e'.number ≡ length (s ∷ h) = ap (λ (x : Event). x.number) event' in omega arith)
            | of_earlier before' ↦ (let few : r'.number ≤ reporting_steps r'.process h = number_up_to root h e' r' before' in absurd (omega arith))
          ])
      | of_earlier before ↦
          (let early : e.number ≤ length h = number_within (event_of_report root h e r before).occurs in
          elim (report_entry is') [
            | of_step made' event' ↦ (let number' : e'.number ≡ length (s ∷ h) = ap (λ (x : Event). x.number) event' in omega arith)
            | of_earlier before' ↦ numbers_in_order root h r r' e e' same before before' less
          ])
    ]

-- ---- who reports is known

reporter_next : (before : List Report) (x : Report) (r : NumberedReport) → Contains (before ++ x ∷ []) (Numbered r) → IsKnown before r.process → IsKnown (before ++ x ∷ []) r.process
reporter_next before x r at there = still_known before x r.process there

pub reporter_known : (accepted : List Report) → IsFolded accepted → (r : NumberedReport) → Contains accepted (Numbered r) → IsKnown accepted r.process
reporter_known _ nothing_folded r at = (let lt = at.1 in absurd (omega arith))
reporter_known _ (one_folded before x folded fit) r at =
    elim (Contains-append_cases before (x ∷ []) (Numbered r) at) [
      | inl old ↦ still_known before x r.process (reporter_known before folded r old)
      | inr new ↦ elim (in_cases x (Numbered r) [] new) [
        | inl is ↦ still_known before x r.process (subst (λ (y : Report). IsFit before y) is fit).is_known
        | inr none ↦ (let lt = none.1 in absurd (omega arith))
      ]
    ]

-- ---- a report at or before the line is of an event of the line

module _ (root : Name) (h : History) (accepted : List Report) (failed : List ℕ) (line : List Position) (premise : IsPremise root h accepted) where
  event_up_to : (i : ℕ) (r : NumberedReport) (e : Event) → name_of accepted i ≡ Some r.process → IsReportOf root h (Numbered r) e
      → (k : Position) → r.number ≤ limit accepted r.process k → IsUpTo root h accepted i k e
  event_up_to i r e named is (At zero) less = (let first = number_first root h e r is in absurd (omega arith))
  event_up_to i r e named is Retired less = tt
  event_up_to i r e named is (At (suc k)) less =
      let p = r.process in
      let w = made_at accepted p k r.number (number_first root h e r is) less in
      let m : NumberedReport = w.0 in
      let there = agreed root h accepted m premise.agrees (maker_in accepted p k (Numbered m) w.1) in
      let said = event_of_report root h there.0 m there.1 in
      let makes = maker_makes p accepted k (Numbered m) w.1 in
      let stamp : Stamp = makes.0 in (
        there.0,
        record {
          occurs = said.occurs;
          of_process = named ∙ ap Some (w.2 ∙ sym said.process);
          values = ap (option_map (λ (y : Stamp). y.events)) (ap (λ l. slice_get l k) (elements_is accepted i p named) ∙ makes.1)
              ∙ ap Some (maker_events p m stamp makes.2 ∙ sym said.values);
        },
        numbers_in_order root h r m e there.0 (sym w.2) is there.1 w.3,
      )

  pub report_in_cut : (r : NumberedReport) (e : Event) → Contains accepted (Numbered r) → r.number ≤ limits_of accepted line r.process → IsReportOf root h (Numbered r) e
      → IsInCut root h accepted line e
  report_in_cut r e at less is =
      let there = at_in (known accepted) r.process (reporter_known accepted premise.folded r at) in
      let i = there.0 in
      let named : name_of accepted i ≡ Some r.process = there.2 in
      record {
        process = i;
        is_known = there.1;
        of_process = named ∙ ap Some (sym (event_of_report root h e r is).process);
        up_to = event_up_to i r e named is (position_in line i) (subst (λ (n : ℕ). r.number ≤ n) (limit_named accepted line i r.process premise.folded named) less);
      }

  -- ---- whether an event is in a cut can be told

  abbrev pub Told : Event → Type 0
  Told e = (b : Bool) × ((b ≡ true) ↔ IsInCut root h accepted line e)

  no_true : {P : Type 0} → (P → ⊥) → (false ≡ true) ↔ P
  no_true never = (λ is. absurd (true≢false (sym is)), λ p. absurd (never p))

  up_to_in : (i : ℕ) (e : Event) → name_of accepted i ≡ Some e.process → (inside : IsInCut root h accepted line e) → IsUpTo root h accepted i (position_in line i) e
  up_to_in i e named inside =
      let same : inside.process ≡ i = same_number_of accepted premise.folded inside.process i e.process inside.of_process named in
      subst (λ (j : ℕ). IsUpTo root h accepted j (position_in line j) e) same inside.up_to

  inside_by : (i : ℕ) (e : Event) → i < length (known accepted) → name_of accepted i ≡ Some e.process → IsUpTo root h accepted i (position_in line i) e → IsInCut root h accepted line e
  inside_by i e lt named up = record { process = i; is_known = lt; of_process = named; up_to = up }

  told_at : (i : ℕ) (e : Event) → i < length (known accepted) → name_of accepted i ≡ Some e.process → (k : Position) → position_in line i ≡ k → IsChosen accepted failed i k → Told e
  told_at i e lt named (At zero) at chosen = (false, no_true (λ inside. subst (λ (k : Position). IsUpTo root h accepted i k e) at (up_to_in i e named inside)))
  told_at i e lt named Retired at chosen =
      (true, (λ is. inside_by i e lt named (subst (λ (k : Position). IsUpTo root h accepted i k e) (sym at) tt), λ inside. refl))
  told_at i e lt named (At (suc k)) at chosen =
      let there = chosen_event root h accepted premise i k (none_failed accepted failed i (At (suc k)) chosen) in
      let x : Event = there.0 in (
        nat_le e.number x.number,
        (
          λ is. inside_by i e lt named (subst (λ (j : Position). IsUpTo root h accepted i j e) (sym at) (x, there.1, within e.number x.number is)),
          λ inside.
              (let up = subst (λ (j : Position). IsUpTo root h accepted i j e) at (up_to_in i e named inside) in
              let same : up.0 ≡ x = one_event root h accepted premise.lawful (place i (At (suc k))) up.0 x up.1 there.1 in
              is_within e.number x.number (subst (λ (y : Event). e.number ≤ y.number) same up.2)),
        ),
      )

  pub told : IsCut accepted failed line → (e : Event) → Told e
  told is_cut e =
      elim (known_or_not accepted e.process) [
        | inl is_known ↦
            (let there = at_in (known accepted) e.process is_known in
            told_at there.0 e there.1 there.2 (position_in line there.0) refl (is_cut.chosen there.0 there.1))
        | inr unknown ↦ (false, no_true (λ inside. unknown (in_at (known accepted) inside.process e.process inside.of_process)))
      ]

  -- ---- the settled list agrees

  module _ (cut : Cut) (is_one : IsConsistentCut accepted failed line) (has : HasEventsOf root h accepted line cut) where
    pub closed : IsClosed root h cut
    closed a b edge inside = (has a).1 ((closed_is_consistent root h accepted premise failed line is_one.is_cut).1 is_one.consistent a b edge ((has b).0 inside))

    steps : AreReportsOfSteps root (kept cut h) (settled accepted line)
    steps r at =
        let there = in_filter (is_settled (limits_of accepted line)) accepted (Numbered r) at in
        let of = agreed root h accepted r premise.agrees there.0 in
        let inside = report_in_cut r of.0 there.0 (within r.number (limits_of accepted line r.process) there.1) of.1 in
        let stays = each_report_is_kept root h cut (Numbered r) of.0 premise.lawful closed of.1 ((has of.0).1 inside) in
        (stays.0, stays.1)

    begins : BeginsWith root (settled accepted line)
    begins p at = premise.agrees.begins p (in_filter (is_settled (limits_of accepted line)) accepted (Begin p) at).0

    pub agrees_if_folded : IsFolded (settled accepted line) → IsPremise root (kept cut h) (settled accepted line)
    agrees_if_folded folded = record {
      folded = folded;
      lawful = kept_is_lawful root h cut premise.lawful closed;
      agrees = reports_of_steps_agree root (kept cut h) (settled accepted line) folded begins steps;
    }

pub each_line_has_events : EachLineHasEvents
each_line_has_events root h accepted failed line premise is_cut =
    (λ e. (told root h accepted failed line premise is_cut e).0, λ e. (told root h accepted failed line premise is_cut e).1)
