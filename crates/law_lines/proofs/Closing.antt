-- A cut is closed exactly where it is stamp-consistent.
use Rattle.std.proofs.Common.{◌≡◌, ◌≢◌, ℕ, zero, suc, ◌<◌, ◌≤◌, Bool, true, false, cond, Some, None, Option, List, [], length, refl, sym, ◌∙◌, ap, subst, ◌⊎◌, inl, inr, arith}
use Rattle.std.specs.Prelude.{◌↔◌}
use Rattle.std.specs.Option.{option_map}
use Rattle.std.proofs.lemmas.Bool.{cases_lt, cases_eq}
use Rattle.std.proofs.lemmas.Option.{slice_get_cases}
use Rattle.event_tree.specs.EventTree.{EventTree}
use Rattle.stamp.specs.declared.stamp.Stamp.{Stamp}
use Rattle.report_line.specs.declared.report.Report.{Report}
use Rattle.chains.specs.declared.position.Place.{Place}
use Rattle.chains.specs.declared.position.Position.{Position}
use Rattle.chains.specs.declared.position.Position.TheVariants.{At, Retired}
use Rattle.chains.specs.Processes.{known, IsKnown}
use Rattle.chains.specs.Elements.{name_of, elements, element}
use Rattle.chains.specs.Positions.{is_retired, position_in, IsChosen, IsCut}
use Rattle.chains.specs.Knowledge.{events_at, Knows, IsStampConsistent}
use Rattle.report_line.specs.histories.History.{Name, History, Birth, Event}
use Rattle.report_line.specs.histories.Events.{Occurs, IsInPast, same, along}
use Rattle.law_lines.specs.Places.{IsPremise, IsEventAt, place, IsUpTo, IsInCut, IsClosed}
use Rattle.law_lines.proofs.Listed.{at_in, in_at, none_in}
use Rattle.law_histories.proofs.Later.{own_past}
use Rattle.law_lines.proofs.Placed.{IsAccepted, element_event, element_source}
use Rattle.law_lines.proofs.Ordered.{in_order, elements_apart, same_name, same_event, one_event, element_at, retirement_event}
use Rattle.law_lines.proofs.Known.{same_number_of, the_law}
use Rattle.law_histories.proofs.Retiring.{none_after, from_occurs, to_occurs, edge_number, past_number, past_trans}
use Rattle.law_lines.proofs.Unknown.{root_known, known_or_ahead, child_known, IsAhead}

-- ---- positions

pub none_failed : (accepted : List Report) (failed : List ℕ) (p : ℕ) (k : Position) → IsChosen accepted failed p k → IsChosen accepted [] p k
none_failed accepted failed p k (inl is) = inl is
none_failed accepted failed p (At k) (inr w) = inr (w.0, w.1, λ there. absurd (none_in p there))
none_failed accepted failed p Retired (inr w) = inr w

number_of_known : (accepted : List Report) (p : Name) → IsKnown accepted p → (i : ℕ) × (i < length (known accepted)) × (name_of accepted i ≡ Some p)
number_of_known accepted p there = at_in (known accepted) p there

retired_if : (b : Bool) (o : Option EventTree) (e : EventTree) → cond b o None ≡ Some e → b ≡ true
retired_if true o e is = refl
retired_if false o e is = absurd (cc)

module _ (root : Name) (h : History) (accepted : List Report) (premise : IsPremise root h accepted) where
  -- the events of a place are those of an event
  place_event : (p : ℕ) (k : Position) (v : EventTree) → events_at accepted (place p k) ≡ Some v → (e : Event) × IsEventAt root h accepted (place p k) e
  place_event p (At k) v is = by (element accepted p k) refl is
    where
      by : (o : Option Stamp) → element accepted p k ≡ o → option_map (λ (y : Stamp). y.events) o ≡ Some v → (e : Event) × IsEventAt root h accepted (place p (At k)) e
      by None there found = absurd (cc)
      by (Some s) there found = (let w = element_event root h accepted premise.agrees p k s there in (w.0, w.1))
  place_event p Retired v is =
      let w = retirement_event root h accepted premise.agrees p (retired_if (is_retired accepted p) _ v is) in
      (w.0, w.1)

  -- a place above 0 has an event
  pub chosen_event : (p i : ℕ) → IsChosen accepted [] p (At (suc i)) → (e : Event) × IsEventAt root h accepted (place p (At (suc i))) e
  chosen_event p i (inl is) = absurd (cc)
  chosen_event p i (inr w) =
      let within : suc i ≤ length (elements accepted p) = w.1 in
      elim (slice_get_cases (elements accepted p) i).1 [
        | inl there ↦ (let e = element_event root h accepted premise.agrees p (suc i) there.0 there.2 in (e.0, e.1))
        | inr past ↦ (let out : length (elements accepted p) ≤ i = past.0 in absurd (omega arith))
      ]

  chosen_retired : (p : ℕ) → IsChosen accepted [] p Retired → is_retired accepted p ≡ true
  chosen_retired p (inl is) = absurd (cc)
  chosen_retired p (inr w) = w

  -- the event of a place is a birth, or its report is accepted
  pub place_source : (p i : ℕ) (e : Event) → IsEventAt root h accepted (place p (At i)) e → (e.kind ≡ Birth) ⊎ IsAccepted root h accepted e.process e
  place_source p i e at =
      let s = element_at root h accepted p i e at in
      let w = element_source root h accepted premise.agrees p i s.0 s.1 in
      let is : w.0 ≡ e = one_event root h accepted premise.lawful (place p (At i)) w.0 e w.1 at in
      subst (λ (x : Event). (x.kind ≡ Birth) ⊎ IsAccepted root h accepted x.process x) is w.2

  pub in_strict_order : (p j k : ℕ) (d e : Event) → j < k → IsEventAt root h accepted (place p (At j)) d → IsEventAt root h accepted (place p (At k)) e → d.number < e.number
  in_strict_order p j k d e less at_d at_e =
      let no_more : d.number ≤ e.number = in_order root h accepted premise.folded premise.lawful p j k d e (omega arith) at_d at_e in
      elim (cases_lt d.number e.number) [
        | inl strict ↦ strict
        | inr no_less ↦
            (let process : d.process ≡ e.process = same_name _ _ (sym at_d.of_process ∙ at_e.of_process) in
            let is : d ≡ e = same_event premise.lawful d e at_d.occurs at_e.occurs process (omega arith) in
            let s = element_at root h accepted p j d at_d in
            let t = element_at root h accepted p k e at_e in
            absurd (elements_apart accepted premise.folded p j k s.0 t.0 less s.1 t.1 (s.2 ∙ (ap (λ (x : Event). x.values) is ∙ sym t.2))))
      ]

  -- a retired process has a last event, whose report is accepted
  last_event : (p : ℕ) → is_retired accepted p ≡ true → (e : Event) × IsEventAt root h accepted (place p Retired) e × IsAccepted root h accepted e.process e
      × ((b : Event) → Occurs root h b → name_of accepted p ≡ Some b.process → b.number ≤ e.number)
  last_event p is =
      let e = retirement_event root h accepted premise.agrees p is in (
        e.0,
        e.1,
        e.3,
        λ b occurs of_one. none_after premise.lawful e.0 e.2.0 e.1.occurs e.2.1 b occurs (same_name _ _ (sym of_one ∙ e.1.of_process)),
      )

  -- whether an event of the process is up to a position
  up_to_or_not : (q : ℕ) (k : Position) (a : Event) → IsChosen accepted [] q k → IsUpTo root h accepted q k a ⊎ (¬ IsUpTo root h accepted q k a)
  up_to_or_not q (At zero) a chosen = inr (λ up. up)
  up_to_or_not q (At (suc i)) a chosen =
      let y = chosen_event q i chosen in
      elim (cases_lt y.0.number a.number) [
        | inl less ↦ inr (λ up.
            let is : up.0.number ≡ y.0.number = ap (λ (x : Event). x.number) (one_event root h accepted premise.lawful (place q (At (suc i))) up.0 y.0 up.1 y.1) in
            let within : a.number ≤ up.0.number = up.2 in
            omega arith)
        | inr within ↦ inl (y.0, y.1, within)
      ]
  up_to_or_not q Retired a chosen = inl tt

  -- a fork whose child is not known is after each position of its process
  ahead_after : (q : ℕ) (k : Position) (a : Event) (w : IsAhead root h accepted a) → IsChosen accepted [] q k → name_of accepted q ≡ Some w.fork.process → ¬ IsUpTo root h accepted q k w.fork
  ahead_after q (At zero) a w chosen is up = up
  ahead_after q (At (suc i)) a w chosen is up =
      w.unknown (child_known root h accepted premise.lawful premise.agrees w.fork up.0 w.child w.given w.occurs w.kind up.1.occurs
      (same_name _ _ (sym is ∙ up.1.of_process)) (place_source q (suc i) up.0 up.1) up.2)
  ahead_after q Retired a w chosen is up =
      let e = last_event q (chosen_retired q chosen) in
      w.unknown (child_known root h accepted premise.lawful premise.agrees w.fork e.0 w.child w.given w.occurs w.kind e.1.occurs
      (same_name _ _ (sym is ∙ e.1.of_process)) (inr e.2) (e.3 w.fork w.occurs is))

  -- ---- closed, then consistent

  in_cut_along : (cut : List Position) → IsClosed root h accepted cut → (a b : Event) → IsInPast root h a b → IsInCut root h accepted cut b → IsInCut root h accepted cut a
  in_cut_along cut closed a b past inside = walk past inside
    where
      walk : {c d : Event} → IsInPast root h c d → IsInCut root h accepted cut d → IsInCut root h accepted cut c
      walk same there = there
      walk (along way edge) there = walk way (closed _ _ edge there)

  own_up_to : (p : ℕ) (k : Position) (v : EventTree) (e : Event) → events_at accepted (place p k) ≡ Some v → IsEventAt root h accepted (place p k) e → IsUpTo root h accepted p k e
  own_up_to p (At zero) v e is at = absurd (cc)
  own_up_to p (At (suc i)) v e is at = (e, at, omega arith)
  own_up_to p Retired v e is at = tt

  knows_events : (x : Place) (q : ℕ) (k : Position) → Knows accepted x q k → (q ≢ x.process) × ((v : EventTree) × (events_at accepted x ≡ Some v))
  knows_events x q (At k) knows = (knows.0, (knows.1.beyond.events, knows.1.beyond.there))
  knows_events x q Retired knows = absurd knows

  consistent_from_closed : (failed : List ℕ) (cut : List Position) → IsCut accepted failed cut → IsClosed root h accepted cut → IsStampConsistent accepted cut
  consistent_from_closed failed cut is_cut closed p q lt_p lt_q knows =
      let x = place p (position_in cut p) in
      let w = knows_events x q (position_in cut q) knows in
      let e = place_event p (position_in cut p) w.1.0 w.1.1 in
      let chosen = none_failed accepted failed q (position_in cut q) (is_cut.chosen q lt_q) in
      let v = (the_law root h accepted premise x e.0 e.1 q (position_in cut q) lt_q w.0 chosen).0 knows in
      let inside : IsInCut root h accepted cut e.0 = record {
        process = p;
        is_known = lt_p;
        of_process = e.1.of_process;
        up_to = own_up_to p (position_in cut p) w.1.0 e.0 w.1.1 e.1;
      } in
      let seen = in_cut_along cut closed v.seen e.0 v.in_past inside in
      let is : seen.process ≡ q = same_number_of accepted premise.folded seen.process q v.seen.process seen.of_process v.of_process in
      v.after (subst (λ (n : ℕ). IsUpTo root h accepted n (position_in cut n) v.seen) is seen.up_to)

  -- ---- consistent, then closed

  -- an event up to a position is in the past of the event of that place
  record IsBelow (p : ℕ) (k : Position) (b : Event) : Type 0 where
    pub top : Event
    pub at : IsEventAt root h accepted (place p k) top
    pub in_past : IsInPast root h b top
    pub source : (top.kind ≡ Birth) ⊎ IsAccepted root h accepted top.process top

  below_top : (b e : Event) → Occurs root h b → Occurs root h e → e.process ≡ b.process → b.number ≤ e.number → IsInPast root h b e
  below_top b e occurs_b occurs_e of_one le =
      elim (cases_lt b.number e.number) [
        | inl less ↦ own_past premise.lawful b e occurs_b occurs_e of_one less
        | inr no_less ↦ subst (IsInPast root h b) (same_event premise.lawful b e occurs_b occurs_e (sym of_one) (omega arith)) same
      ]

  below : (p : ℕ) (k : Position) (b : Event) → IsChosen accepted [] p k → Occurs root h b → name_of accepted p ≡ Some b.process → IsUpTo root h accepted p k b → IsBelow p k b
  below p (At zero) b chosen occurs is up = absurd up
  below p (At (suc i)) b chosen occurs is up = record {
    top = up.0;
    at = up.1;
    in_past = below_top b up.0 occurs up.1.occurs (same_name _ _ (sym up.1.of_process ∙ is)) up.2;
    source = place_source p (suc i) up.0 up.1;
  }
  below p Retired b chosen occurs is up =
      let e = last_event p (chosen_retired p chosen) in
      record {
        top = e.0;
        at = e.1;
        in_past = below_top b e.0 occurs e.1.occurs (same_name _ _ (sym e.1.of_process ∙ is)) (e.3 b occurs is);
        source = inr e.2;
      }

  earlier_up_to : (p : ℕ) (k : Position) (a b : Event) → a.number ≤ b.number → IsUpTo root h accepted p k b → IsUpTo root h accepted p k a
  earlier_up_to p (At zero) a b le up = up
  earlier_up_to p (At (suc i)) a b le up = (let within : b.number ≤ up.0.number = up.2 in (up.0, up.1, omega arith))
  earlier_up_to p Retired a b le up = up

  module _ (failed : List ℕ) (cut : List Position) (is_cut : IsCut accepted failed cut) (consistent : IsStampConsistent accepted cut) where
    chosen_in : (p : ℕ) → p < length (known accepted) → IsChosen accepted [] p (position_in cut p)
    chosen_in p lt = none_failed accepted failed p (position_in cut p) (is_cut.chosen p lt)

    -- no event that is in the past of a chosen place is after its process's position
    nothing_after : (p q : ℕ) (e z : Event) → p < length (known accepted) → q < length (known accepted) → q ≢ p → IsEventAt root h accepted (place p (position_in cut p)) e
        → Occurs root h z → name_of accepted q ≡ Some z.process → IsInPast root h z e → ¬ IsUpTo root h accepted q (position_in cut q) z → ⊥
    nothing_after p q e z lt_p lt_q other at occurs is past after =
        consistent p q lt_p lt_q
        ((the_law root h accepted premise (place p (position_in cut p)) e at q (position_in cut q) lt_q other (chosen_in q lt_q)).1
        (record { seen = z; occurs = occurs; of_process = is; after = after; in_past = past }))

    -- each process with an event in the past of a chosen place is known
    past_known : (p : ℕ) (e a : Event) → p < length (known accepted) → IsEventAt root h accepted (place p (position_in cut p)) e → (e.kind ≡ Birth) ⊎ IsAccepted root h accepted e.process e
        → Occurs root h a → IsInPast root h a e → IsKnown accepted a.process
    past_known p e a lt_p at source occurs past =
        elim (known_or_ahead premise.lawful accepted (root_known root h accepted premise.folded premise.agrees e.process (in_at (known accepted) p e.process at.of_process)) a occurs) [
          | inl is_known ↦ is_known
          | inr ahead ↦
              (let q = number_of_known accepted ahead.fork.process ahead.parent in
              let past_w : IsInPast root h ahead.fork e = past_trans ahead.in_past past in
              elim (cases_eq q.0 p) [
                | inl is ↦
                    (let of_p : name_of accepted p ≡ Some ahead.fork.process = subst (λ (n : ℕ). name_of accepted n ≡ Some ahead.fork.process) is q.2 in
                    absurd (ahead.unknown (child_known root h accepted premise.lawful premise.agrees ahead.fork e ahead.child ahead.given ahead.occurs ahead.kind at.occurs
                    (same_name _ _ (sym of_p ∙ at.of_process)) source (past_number past_w))))
                | inr other ↦ absurd (nothing_after p q.0 e ahead.fork lt_p q.1 other at ahead.occurs q.2 past_w (ahead_after q.0 (position_in cut q.0) a ahead (chosen_in q.0 q.1) q.2))
              ])
        ]

    closed_from_consistent : IsClosed root h accepted cut
    closed_from_consistent a b edge inside =
        let p = inside.process in
        let lt_p = inside.is_known in
        let occurs_a = from_occurs edge in
        let top = below p (position_in cut p) b (chosen_in p lt_p) (to_occurs edge) inside.of_process inside.up_to in
        let past : IsInPast root h a top.top = past_trans (along same edge) top.in_past in
        let q = number_of_known accepted a.process (past_known p top.top a lt_p top.at top.source occurs_a past) in
        elim (cases_eq q.0 p) [
          | inl is ↦ record {
            process = p;
            is_known = lt_p;
            of_process = subst (λ (n : ℕ). name_of accepted n ≡ Some a.process) is q.2;
            up_to = earlier_up_to p (position_in cut p) a b (edge_number edge) inside.up_to;
          }
          | inr other ↦ elim (up_to_or_not q.0 (position_in cut q.0) a (chosen_in q.0 q.1)) [
            | inl up ↦ record { process = q.0; is_known = q.1; of_process = q.2; up_to = up }
            | inr after ↦ absurd (nothing_after p q.0 top.top a lt_p q.1 other top.at occurs_a q.2 past after)
          ]
        ]

pub closed_is_consistent : (root : Name) (h : History) (accepted : List Report) → IsPremise root h accepted → (failed : List ℕ) (cut : List Position) → IsCut accepted failed cut
    → IsClosed root h accepted cut ↔ IsStampConsistent accepted cut
closed_is_consistent root h accepted premise failed cut is_cut = (
  consistent_from_closed root h accepted premise failed cut is_cut,
  λ consistent. closed_from_consistent root h accepted premise failed cut is_cut consistent,
)
