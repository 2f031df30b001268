-- The birth of a process is kept exactly where the greatest line does not leave it unborn.
use Rattle.std.proofs.Common.{◌≡◌, ◌≢◌, ℕ, ◌+◌, ◌≤◌, ◌<◌, true, false, List, [], ◌∷◌, ◌++◌, Option, Some, None, length, set, refl, sym, ◌∙◌, ap, subst, inl, inr, arith, length-set}
use Rattle.std.specs.Prelude.{Contains, slice_get}
use Rattle.std.specs.List.{list_any}
use Rattle.std.specs.Option.{option_map, option_map_or}
use Rattle.chains.proofs.LookUps.{known_from}
use Rattle.std.proofs.lemmas.Bool.{cases_Bool, cases_lt, cases_eq, true≢false}
use Rattle.std.proofs.lemmas.List.{get_or-set_same, get_or-set_other}
use Rattle.std.proofs.lemmas.Option.{slice_get_within}
use Rattle.event_tree.specs.EventTree.{EventTree, Leaf}
use Rattle.event_tree.specs.Values.{value_at, IsAtOrBelow, ExceedsOn}
use Rattle.stamp.specs.declared.stamp.Stamp.{Stamp}
use Rattle.report_line.specs.declared.report.NumberedReport.{NumberedReport}
use Rattle.report_line.specs.declared.report.Report.{Report}
use Rattle.report_line.specs.declared.report.Report.TheVariants.{Begin, Numbered}
use Rattle.chains.specs.declared.position.Place.{Place}
use Rattle.chains.specs.declared.position.Position.{Position}
use Rattle.chains.specs.declared.position.Position.TheVariants.{At, Retired}
use Rattle.chains.specs.Processes.{Name, known, is_birth_of, reports_of, birth_report, events_after}
use Rattle.chains.specs.Elements.{name_of, elements, element, stable, stable_of}
use Rattle.chains.specs.Positions.{rank, position_in, IsChosen, IsCut, IsSurviving}
use Rattle.chains.specs.Knowledge.{events_at, Knows, KnowsAfter, IsStampConsistent}
use Rattle.chains.specs.Greatest.{IsConsistentCut, IsGreatestCut}
use Rattle.chains.specs.Folded.{IsFitReport, IsFolded}
use Rattle.chains.proofs.Counting.{birth_there}
use Rattle.law_lines.proofs.Listed.{in_cases}
use Rattle.law_lines.proofs.Ordered.{elements_below}
use Rattle.law_lines.specs.Settled.{limits_of, is_settled}
use Rattle.law_lines.proofs.Numbered.{AreLimitsOf}
use Rattle.law_lines.proofs.Folding.{within, is_within}
use Rattle.law_lines.proofs.Looking.{known_any, any_known}
use Rattle.law_lines.proofs.Made.{birth_events, below_both, exceeds_more, own_no_birth}
use Rattle.law_lines.proofs.Reports.{HasReport, has_report, fit_at, first_events, birth_found}
use Rattle.law_lines.proofs.SettledClosing.{known_number, elements_named, place_above, place_born, knows_after, limits_of_cut}

pub contains_split : {X : Type 0} (xs : List X) (y : X) → Contains xs y → (before : List X) × (after : List X) × (xs ≡ before ++ y ∷ after)
contains_split [] y at = (let lt = at.1 in absurd (omega arith))
contains_split (x ∷ xs) y at =
    elim (in_cases x y xs at) [
      | inl same ↦ ([], xs, ap (λ z. z ∷ xs) same)
      | inr later ↦ (let rest = contains_split xs y later in (x ∷ rest.0, rest.1, ap (λ l. x ∷ l) rest.2))
    ]

exceeds_below : (y : Stamp) (e : EventTree) → IsAtOrBelow e y.events → ¬ ExceedsOn y.id e y.events
exceeds_below y e below there =
    (let a : value_at e there.0 ≤ value_at y.events there.0 = below there.0 in let b : value_at y.events there.0 < value_at e there.0 = there.2 in omega arith)

some_events : (a b : EventTree) → Some a ≡ Some b → a ≡ b
some_events a b is = cc

none_events : (a : EventTree) → (let o : Option EventTree = None in o) ≡ Some a → ⊥
none_events a is = cc

not_itself : (accepted : List Report) (x : Place) (q : ℕ) (k : Position) → q ≡ x.process → ¬ Knows accepted x q k
not_itself accepted x q (At k) same knows = knows.0 same
not_itself accepted x q Retired same knows = knows

module _ (accepted : List Report) (failed : List ℕ) (line : List Position) (folded : IsFolded accepted) (is_one : IsConsistentCut accepted failed line) where
  are_limits : AreLimitsOf accepted line (limits_of accepted line)
  are_limits = limits_of_cut accepted failed line folded is_one.is_cut

  -- what is known of an accepted report
  report_at : (x : NumberedReport) → Contains accepted (Numbered x) → HasReport accepted x.process x.number x.stamp
  report_at x at =
      let parts = contains_split accepted (Numbered x) at in
      has_report folded parts.0 parts.1 x.process x.number x.stamp x.action parts.2

  fit_of : (x : NumberedReport) → Contains accepted (Numbered x) → (before : List Report) × IsFitReport before x
  fit_of x at =
      let parts = contains_split accepted (Numbered x) at in
      (parts.0, fit_at folded parts.0 parts.1 (Numbered x) parts.2)

  parent_differs : (p : Name) (x : NumberedReport) → Contains accepted (Numbered x) → is_birth_of p (Numbered x) ≡ true → p ≢ x.process
  parent_differs p x at birth same =
      let fit = fit_of x at in
      true≢false (sym birth ∙ (ap (λ (y : Name). is_birth_of y (Numbered x)) same ∙ own_no_birth fit.0 x.process x.number x.stamp x.action fit.1))

  number_of : (q : Name) → list_any (is_birth_of q) accepted ≡ true → (j : ℕ) × (name_of accepted j ≡ Some q)
  number_of q is = known_number accepted q (any_known accepted q is)

  other_number : (i j : ℕ) (p q : Name) → name_of accepted i ≡ Some p → name_of accepted j ≡ Some q → p ≢ q → j ≢ i
  other_number i j p q named named' differs same = differs (name_same p q (sym named ∙ (ap (name_of accepted) (sym same) ∙ named')))
    where
      name_same : (a b : Name) → Some a ≡ Some b → a ≡ b
      name_same a b is = cc

  -- with a place of the child the line has the fork
  pub birth_is_settled : (i : ℕ) (p : Name) → name_of accepted i ≡ Some p → position_in line i ≢ At 0 → (y : Report) → Contains accepted y → is_birth_of p y ≡ true
      → is_settled (limits_of accepted line) y ≡ true
  birth_is_settled i p named born (Begin q) at birth = refl
  birth_is_settled i p named born (Numbered x) at birth =
      let q = x.process in
      let report = report_at x at in
      let j = number_of q report.is_known in
      let events : birth_events p accepted ≡ x.stamp.events = ap events_after (birth_found folded p (Numbered x) at birth) in
      let there = place_born accepted i p (limits_of accepted line p) folded named (position_in line i) born (are_limits i p named) in
      elim (cases_lt (limits_of accepted line q) x.number) [
        | inl behind ↦
            absurd (is_one.consistent i j.0 (slice_get_within (known accepted) i p named) (slice_get_within (known accepted) j.0 q j.1)
            (knows_after accepted (record { process = i; position = position_in line i }) j.0 q x.number (limits_of accepted line q) x.stamp there.0 folded j.1 report behind there.1
            (subst (λ (e : EventTree). IsAtOrBelow e there.0) events there.2) (other_number i j.0 p q named j.1 (parent_differs p x at birth)) (position_in line j.0) (are_limits j.0 q j.1)))
        | inr up_to ↦ is_within x.number (limits_of accepted line q) up_to
      ]

  -- what is below a place is below each element that is not before it
  at_place_below : (j k later : ℕ) (f e : EventTree) (s : Stamp) → events_at accepted (record { process = j; position = At k }) ≡ Some e → IsAtOrBelow f e → k ≤ later
      → element accepted j later ≡ Some s → IsAtOrBelow f s.events
  at_place_below j k later f e s there below from is = by (element accepted j k) refl there
    where
      by : (o : Option Stamp) → element accepted j k ≡ o → option_map (λ (y : Stamp). y.events) o ≡ Some e → IsAtOrBelow f s.events
      by None none found = absurd (none_events e found)
      by (Some t) some found =
          below_both f e s.events below
          (subst (λ (g : EventTree). IsAtOrBelow g s.events) (some_events t.events e found) (elements_below accepted folded j k later t s from some is))

  -- ---- the line with an unborn process raised to its birth

  module _ (i : ℕ) (p : Name) (named : name_of accepted i ≡ Some p) (unborn : position_in line i ≡ At 0) where
    i_within : i < length line
    i_within =
        (let known_one : i < length (known accepted) = slice_get_within (known accepted) i p named in
        let same : length line ≡ length (known accepted) = is_one.is_cut.complete in omega arith)

    abbrev raised : List Position
    raised = set line i (At 1)

    raised_here : position_in raised i ≡ At 1
    raised_here = get_or-set_same line i (At 1) (At 0) i_within

    raised_other : (j : ℕ) → j ≢ i → position_in raised j ≡ position_in line j
    raised_other j differs = get_or-set_other line i j (At 1) (At 0) differs

    birth_survives : IsSurviving accepted failed i (At 1)
    birth_survives =
        let first = first_events folded p (known_any accepted p (known_from accepted i p named)) in
        let in_elements : 0 < length (elements accepted i) = slice_get_within (elements accepted i) 0 first.0 (ap (λ l. slice_get l 0) (elements_named accepted i p named) ∙ first.1) in
        let lasts : 1 ≤ length (stable_of p accepted) = birth_there accepted i p named in
        let same : length (stable accepted i) ≡ length (stable_of p accepted) =
        ap (λ (l : List Stamp). length l) (ap (λ (o : Option Name). option_map_or (λ name. stable_of name accepted) o []) named) in
        (omega arith, omega arith, λ failing. omega arith)

    raised_is_cut : IsCut accepted failed raised
    raised_is_cut = record {
      complete = length-set line i (At 1) ∙ is_one.is_cut.complete;
      chosen = λ j less.
          elim (cases_eq j i) [
            | inl same ↦ subst (λ (n : ℕ). IsChosen accepted failed n (position_in raised n)) (sym same) (subst (λ (k : Position). IsChosen accepted failed i k) (sym raised_here) (inr birth_survives))
            | inr differs ↦ subst (λ (k : Position). IsChosen accepted failed j k) (sym (raised_other j differs)) (is_one.is_cut.chosen j less)
          ];
    }

    -- the birth is below every place of the parent that has the fork, and so it knows no more
    birth_known : (x : NumberedReport) → Contains accepted (Numbered x) → is_birth_of p (Numbered x) ≡ true → x.number ≤ limits_of accepted line x.process
        → (j : ℕ) → j < length (known accepted) → j ≢ i → (k : Position) → position_in line j ≡ k → ¬ Knows accepted (record { process = i; position = At 1 }) j k
    birth_known x at birth less j j_within differs Retired is_k knows = knows
    birth_known x at birth less j j_within differs (At k) is_k knows =
        let q = x.process in
        let report = report_at x at in
        let jq = number_of q report.is_known in
        let fit = (fit_of x at).1 in
        let number : x.number ≡ reports_of q (fit_of x at).0 + 1 = fit.number in
        let place = place_above accepted jq.0 q x.number (limits_of accepted line q) x.stamp folded jq.1 report (omega arith) less (position_in line jq.0) (are_limits jq.0 q jq.1) in
        let w : KnowsAfter accepted (record { process = i; position = At 1 }) j k = knows.1 in
        let first = first_events folded p (known_any accepted p (known_from accepted i p named)) in
        let at_birth : events_at accepted (record { process = i; position = At 1 }) ≡ Some first.0.events =
        ap (option_map (λ (y : Stamp). y.events)) (ap (λ l. slice_get l 0) (elements_named accepted i p named) ∙ first.1) in
        let same_events : w.beyond.events ≡ x.stamp.events =
        some_events w.beyond.events first.0.events (sym w.beyond.there ∙ at_birth) ∙ (first.2 ∙ ap events_after (birth_found folded p (Numbered x) at birth)) in
        let exceeds : ExceedsOn w.stamp.id x.stamp.events w.stamp.events = subst (λ (e : EventTree). ExceedsOn w.stamp.id e w.stamp.events) same_events w.beyond.exceeds in
        elim (cases_eq j jq.0) [
          | inr other ↦
              is_one.consistent jq.0 j (slice_get_within (known accepted) jq.0 q jq.1) j_within
              (subst (λ (n : Position). Knows accepted (record { process = jq.0; position = position_in line jq.0 }) j n) (sym is_k) (
                other,
                record {
                  later = w.later;
                  stamp = w.stamp;
                  from = w.from;
                  first = w.first;
                  is_element = w.is_element;
                  beyond = record { events = place.0; there = place.1; exceeds = exceeds_more w.stamp.id x.stamp.events place.0 w.stamp.events place.2 exceeds };
                },
              ))
          | inl same ↦
              exceeds_below w.stamp x.stamp.events
              (at_place_below jq.0 k w.later x.stamp.events place.0 w.stamp
              (subst (λ (n : Position). events_at accepted (record { process = jq.0; position = n }) ≡ Some place.0) (ap (position_in line) (sym same) ∙ is_k) place.1)
              place.2 w.from (subst (λ (n : ℕ). element accepted n w.later ≡ Some w.stamp) same w.is_element))
              exceeds
        ]

    zero_knows : (q : Name) → birth_report p accepted ≡ Some (Begin q) → (j : ℕ) (k : Position) → ¬ Knows accepted (record { process = i; position = At 1 }) j k
    zero_knows q root j Retired knows = knows
    zero_knows q root j (At k) knows =
        let w : KnowsAfter accepted (record { process = i; position = At 1 }) j k = knows.1 in
        let first = first_events folded p (known_any accepted p (known_from accepted i p named)) in
        let at_birth : events_at accepted (record { process = i; position = At 1 }) ≡ Some first.0.events =
        ap (option_map (λ (y : Stamp). y.events)) (ap (λ l. slice_get l 0) (elements_named accepted i p named) ∙ first.1) in
        let same_events : w.beyond.events ≡ Leaf 0 =
        some_events w.beyond.events first.0.events (sym w.beyond.there ∙ at_birth) ∙ (first.2 ∙ ap events_after root) in
        let exceeds : ExceedsOn w.stamp.id (Leaf 0) w.stamp.events = subst (λ (e : EventTree). ExceedsOn w.stamp.id e w.stamp.events) same_events w.beyond.exceeds in
        let none : value_at (Leaf 0) exceeds.0 ≡ 0 = refl in
        let more : value_at w.stamp.events exceeds.0 < value_at (Leaf 0) exceeds.0 = exceeds.2 in
        absurd (omega arith)

    -- the birth of p, where it is settled, knows nothing after the line
    birth_knows : (y : Report) → Contains accepted y → is_birth_of p y ≡ true → is_settled (limits_of accepted line) y ≡ true
        → (j : ℕ) → j < length (known accepted) → j ≢ i → ¬ Knows accepted (record { process = i; position = At 1 }) j (position_in line j)
    birth_knows (Begin q) at birth taken j j_within differs = zero_knows q (birth_found folded p (Begin q) at birth) j (position_in line j)
    birth_knows (Numbered x) at birth taken j j_within differs =
        birth_known x at birth (within x.number (limits_of accepted line x.process) taken) j j_within differs (position_in line j) refl

    -- who knows p after its birth knows it after 0
    knows_less : (x : Place) → Knows accepted x i (At 1) → Knows accepted x i (At 0)
    knows_less x knows = (
      knows.0,
      record { later = knows.1.later; stamp = knows.1.stamp; from = omega arith; first = knows.1.first; is_element = knows.1.is_element; beyond = knows.1.beyond },
    )

    raised_is_consistent : (y : Report) → Contains accepted y → is_birth_of p y ≡ true → is_settled (limits_of accepted line) y ≡ true → IsStampConsistent accepted raised
    raised_is_consistent y at birth taken a b a_within b_within knows =
        elim (cases_eq a i) [
          | inl same_a ↦ elim (cases_eq b i) [
            | inl same_b ↦ not_itself accepted (record { process = a; position = position_in raised a }) b (position_in raised b) (same_b ∙ sym same_a) knows
            | inr other_b ↦
                birth_knows y at birth taken b b_within other_b
                (subst (λ (k : Position). Knows accepted (record { process = i; position = At 1 }) b k) (raised_other b other_b)
                (subst (λ (k : Position). Knows accepted (record { process = i; position = k }) b (position_in raised b)) raised_here
                (subst (λ (n : ℕ). Knows accepted (record { process = n; position = position_in raised n }) b (position_in raised b)) same_a knows)))
          ]
          | inr other_a ↦
              (let by_line : Knows accepted (record { process = a; position = position_in line a }) b (position_in raised b) =
              subst (λ (k : Position). Knows accepted (record { process = a; position = k }) b (position_in raised b)) (raised_other a other_a) knows in
              elim (cases_eq b i) [
                | inl same_b ↦
                    is_one.consistent a i a_within (slice_get_within (known accepted) i p named)
                    (subst (λ (k : Position). Knows accepted (record { process = a; position = position_in line a }) i k) (sym unborn)
                    (knows_less (record { process = a; position = position_in line a })
                    (subst (λ (k : Position). Knows accepted (record { process = a; position = position_in line a }) i k) raised_here
                    (subst (λ (n : ℕ). Knows accepted (record { process = a; position = position_in line a }) n (position_in raised n)) same_b by_line))))
                | inr other_b ↦
                    is_one.consistent a b a_within b_within
                    (subst (λ (k : Position). Knows accepted (record { process = a; position = position_in line a }) b k) (raised_other b other_b) by_line)
              ])
        ]

-- With the fork the greatest line has a place of the child.
pub unborn_is_not_settled : (accepted : List Report) (failed : List ℕ) (line : List Position) → IsFolded accepted → IsGreatestCut accepted failed line
    → (i : ℕ) (p : Name) → name_of accepted i ≡ Some p → position_in line i ≡ At 0 → (y : Report) → Contains accepted y → is_birth_of p y ≡ true
    → is_settled (limits_of accepted line) y ≡ false
unborn_is_not_settled accepted failed line folded greatest i p named unborn y at birth =
    elim (cases_Bool (is_settled (limits_of accepted line) y)) [
      | inr left ↦ left
      | inl taken ↦
          (let higher : List Position = raised accepted failed line folded greatest.is_one i p named unborn in
          let is_cut = raised_is_cut accepted failed line folded greatest.is_one i p named unborn in
          let consistent = raised_is_consistent accepted failed line folded greatest.is_one i p named unborn y at birth taken in
          let at_most : rank accepted i (position_in higher i) ≤ rank accepted i (position_in line i) =
          greatest.greatest higher (record { is_cut = is_cut; consistent = consistent }) i (slice_get_within (known accepted) i p named) in
          let here : rank accepted i (position_in higher i) ≡ 1 = ap (rank accepted i) (raised_here accepted failed line folded greatest.is_one i p named unborn) in
          let there : rank accepted i (position_in line i) ≡ 0 = ap (rank accepted i) unborn in
          absurd (omega arith))
    ]
