-- A cut that survives whoever fails is at or before each line, and stays such a cut through a settlement.
use Rattle.std.proofs.Common.{◌≡◌, ℕ, zero, suc, ◌+◌, ◌≤◌, Bool, true, false, cond, List, [], ◌++◌, Option, Some, None, length, map, refl, sym, ◌∙◌, ap, subst, inl, inr, arith, length-append}
use Rattle.std.specs.Prelude.{slice_get, is_some, drop}
use Rattle.std.specs.List.{list_any}
use Rattle.std.specs.Option.{option_map, option_map_or}
use Rattle.std.proofs.lemmas.Bool.{cases_Bool, true≢false}
use Rattle.std.proofs.lemmas.List.{take-append-drop, length-map}
use Rattle.std.proofs.lemmas.Option.{slice_get-map, slice_get_within, get_or_from_slice_get}
use Rattle.event_tree.specs.EventTree.{EventTree}
use Rattle.stamp.specs.declared.stamp.Stamp.{Stamp}
use Rattle.report_line.specs.declared.report.Report.{Report}
use Rattle.report_line.specs.declared.report.Report.TheVariants.{Numbered}
use Rattle.chains.specs.declared.position.Position.{Position}
use Rattle.chains.specs.declared.position.Position.TheVariants.{At, Retired}
use Rattle.chains.specs.Processes.{Name, known, first_of, is_birth_of, reports_of, last_report, birth_report, events_after, last_events, target_after, target_of}
use Rattle.chains.specs.Elements.{name_of, elements, element, elements_of, stable, stable_of, present_in}
use Rattle.chains.specs.Positions.{rank, position_in, is_retired, IsChosen, IsCut}
use Rattle.chains.specs.Knowledge.{events_at, Knows, KnowsAfter, IsStampConsistent}
use Rattle.chains.specs.Folded.{IsFolded}
use Rattle.chains.specs.Greatest.{IsGreatestCut}
use Rattle.chains.proofs.Keeps.{named}
use Rattle.chains.proofs.LookUps.{known_from}
use Rattle.law_lines.proofs.Listed.{at_front, in_filter}
use Rattle.law_lines.proofs.Known.{same_number_of}
use Rattle.law_lines.proofs.Unknown.{known_by}
use Rattle.law_lines.specs.Settled.{limits_of, is_settled, settled}
use Rattle.law_lines.specs.Garbage.{Lasts, IsSafeCut, IsNotAfter, NoLineIsBelowSafe, SafeCutsStay}
use Rattle.law_lines.proofs.Folding.{all_settled}
use Rattle.law_lines.proofs.Looking.{any_known}
use Rattle.law_lines.proofs.Born.{unknown_lasts_not}
use Rattle.law_lines.proofs.Made.{unknown_has_nothing}
use Rattle.law_lines.proofs.SettledClosing.{known_number, elements_named, retired_named}
use Rattle.law_lines.proofs.Elements.{settled_elements, stable_enough}
use Rattle.law_lines.proofs.Standing.{limit_at, born_in, retirement_of, settled_retired, stays_retired}
use Rattle.law_lines.proofs.SettledClosing.{settled_is_folded}

one_name : (p q : Name) → Some p ≡ Some q → p ≡ q
one_name p q is = cc

-- ---- a safe cut as a list

module _ (accepted : List Report) (cut : Name → Position) (folded : IsFolded accepted) (safe : IsSafeCut accepted cut) where
  abbrev listed : List Position
  listed = map cut (known accepted)

  pub listed_at : (i : ℕ) (p : Name) → name_of accepted i ≡ Some p → position_in (map cut (known accepted)) i ≡ cut p
  listed_at i p is = get_or_from_slice_get (map cut (known accepted)) i (cut p) (At 0) (slice_get-map cut (known accepted) i ∙ ap (option_map cut) is)

  chosen_by : (failed : List ℕ) (i : ℕ) (p : Name) → name_of accepted i ≡ Some p → (k : Position) → Lasts accepted p k → IsChosen accepted failed i k
  chosen_by failed i p is (At zero) lasts = inl refl
  chosen_by failed i p is (At (suc k)) lasts =
      let many : length (elements accepted i) ≡ length (elements_of p accepted) = ap (λ (l : List Stamp). length l) (elements_named accepted i p is) in
      let sum : length (elements_of p accepted) ≡ length (stable_of p accepted) + length (present_in (last_report p accepted)) = length-append (stable_of p accepted) (present_in (last_report p accepted)) in
      let same : length (stable accepted i) ≡ length (stable_of p accepted) = ap (λ (l : List Stamp). length l) (ap (λ (o : Option Name). option_map_or (λ name. stable_of name accepted) o []) is) in
      inr (omega arith, omega arith, λ failing. omega arith)
  chosen_by failed i p is Retired lasts = inr (ap (λ (o : Option Name). option_map_or (λ name. is_some (target_of name accepted)) o false) is ∙ lasts)

  pub listed_is_cut : (failed : List ℕ) → IsCut accepted failed (map cut (known accepted))
  listed_is_cut failed = record {
    complete = length-map (known accepted) cut;
    chosen = λ i less.
        (let n = named accepted i less in
        subst (λ (k : Position). IsChosen accepted failed i k) (sym (listed_at i n.0 n.1)) (chosen_by failed i n.0 n.1 (cut n.0) (safe.lasts n.0)));
  }

  below_by : (i : ℕ) (failed : List ℕ) (j k : Position) → IsChosen accepted failed i k → rank accepted i j ≤ rank accepted i k → IsNotAfter j k
  below_by i failed j Retired chosen less = tt
  below_by i failed (At j) (At k) chosen less = less
  below_by i failed Retired (At k) (inl is) less = (let none : k ≡ 0 = at_same k is in absurd (omega arith))
    where
      at_same : (n : ℕ) → At n ≡ At 0 → n ≡ 0
      at_same n e = cc
  below_by i failed Retired (At k) (inr w) less = (let few : k ≤ length (elements accepted i) = w.1 in absurd (omega arith))

  pub listed_consistent : IsStampConsistent accepted (map cut (known accepted))
  listed_consistent a b a_within b_within knows =
      let m = named accepted a a_within in
      let n = named accepted b b_within in
      safe.consistent a b m.0 n.0 m.1 n.1
      (subst (λ (k : Position). Knows accepted (record { process = a; position = k }) b (cut n.0)) (listed_at a m.0 m.1)
      (subst (λ (k : Position). Knows accepted (record { process = a; position = position_in (map cut (known accepted)) a }) b k) (listed_at b n.0 n.1) knows))

  pub is_below : (failed : List ℕ) (line : List Position) (i : ℕ) (p : Name) → IsGreatestCut accepted failed line → name_of accepted i ≡ Some p → IsNotAfter (cut p) (position_in line i)
  is_below failed line i p greatest is =
      let within = slice_get_within (known accepted) i p is in
      below_by i failed (cut p) (position_in line i) (greatest.is_one.is_cut.chosen i within)
      (subst (λ (k : Position). rank accepted i k ≤ rank accepted i (position_in line i)) (listed_at i p is)
      (greatest.greatest (map cut (known accepted)) (record {
        is_cut = listed_is_cut failed;
        consistent = listed_consistent;
      }) i within))

pub no_line_is_below_safe : NoLineIsBelowSafe
no_line_is_below_safe accepted cut failed line i p folded safe greatest is = is_below accepted cut folded safe failed line i p greatest is

-- ---- through a settlement

no_events : (e : EventTree) → (let o : Option EventTree = None in o) ≡ Some e → ⊥
no_events e is = cc

retired_if : {X : Type 0} (b : Bool) (o : Option X) (x : X) → cond b o None ≡ Some x → b ≡ true
retired_if true o x is = refl
retired_if false o x is = absurd (cc)

module _ (accepted : List Report) (cut : Name → Position) (failed : List ℕ) (line : List Position) (folded : IsFolded accepted) (safe : IsSafeCut accepted cut) (greatest : IsGreatestCut accepted failed line) where
  number_in : (p : Name) → list_any (is_birth_of p) accepted ≡ true → (i : ℕ) × (name_of accepted i ≡ Some p)
  number_in p is = known_number accepted p (any_known accepted p is)

  lasts_by : (p : Name) (k : Position) → cut p ≡ k → Lasts accepted p k → Lasts (settled accepted line) p k
  lasts_by p (At n) at lasts =
      elim (cases_Bool (list_any (is_birth_of p) accepted)) [
        | inr unknown ↦
            (let none : length (stable_of p accepted) ≡ 0 = ap (λ (l : List Stamp). length l) (unknown_lasts_not folded p unknown) in omega arith)
        | inl is_known ↦
            (let i = number_in p is_known in
            stable_enough accepted failed line i.0 p folded greatest i.1 n lasts
            (not_after (position_in line i.0) (subst (λ (j : Position). IsNotAfter j (position_in line i.0)) at (is_below accepted cut folded safe failed line i.0 p greatest i.1))))
      ]
    where
      not_after : (k : Position) → IsNotAfter (At n) k → (j : ℕ) → k ≡ At j → n ≤ j
      not_after (At m) less j is = subst (λ (x : ℕ). n ≤ x) (at_same m j is) less
        where
          at_same : (a b : ℕ) → At a ≡ At b → a ≡ b
          at_same a b e = cc
      not_after Retired less j is = absurd (cc)
  lasts_by p Retired at lasts =
      elim (cases_Bool (list_any (is_birth_of p) accepted)) [
        | inr unknown ↦
            (let none : is_some (target_of p accepted) ≡ false = ap (λ o. is_some (target_after o)) (unknown_has_nothing folded p unknown).last in absurd (true≢false (sym lasts ∙ none)))
        | inl is_known ↦
            (let i = number_in p is_known in
            stays_retired accepted failed line i.0 p folded greatest i.1
            (retired_too (position_in line i.0) (subst (λ (j : Position). IsNotAfter j (position_in line i.0)) at (is_below accepted cut folded safe failed line i.0 p greatest i.1))))
      ]
    where
      retired_too : (k : Position) → IsNotAfter Retired k → k ≡ Retired
      retired_too (At m) less = absurd less
      retired_too Retired less = refl

  -- a process by its number in the settled list
  number_before : (i : ℕ) (p : Name) → name_of (settled accepted line) i ≡ Some p → (j : ℕ) × (name_of accepted j ≡ Some p)
  number_before i p is =
      let w = born_in (settled accepted line) p (known_from (settled accepted line) i p is) in
      let at = in_filter (is_settled (limits_of accepted line)) accepted w.birth w.contained in
      known_number accepted p (known_by accepted w.birth p at.0 w.bears)

  element_before : (i j : ℕ) (p : Name) (k : ℕ) (s : Stamp) → name_of (settled accepted line) i ≡ Some p → name_of accepted j ≡ Some p
      → element (settled accepted line) i k ≡ Some s → element accepted j k ≡ Some s
  element_before i j p zero s is is' there = absurd (cc)
  element_before i j p (suc k) s is is' there =
      let n = rank accepted j (position_in line j) in
      let all = elements_of p accepted in
      let parts : elements_of p accepted ≡ elements_of p (settled accepted line) ++ drop (rank accepted j (position_in line j)) (elements_of p accepted) =
      sym (take-append-drop (rank accepted j (position_in line j)) (elements_of p accepted))
      ∙ ap (λ l. l ++ drop (rank accepted j (position_in line j)) (elements_of p accepted)) (sym (settled_elements accepted failed line j p folded greatest is')) in
      ap (λ l. slice_get l k) (elements_named accepted j p is') ∙ (ap (λ l. slice_get l k) parts
      ∙ at_front (elements_of p (settled accepted line)) (drop (rank accepted j (position_in line j)) (elements_of p accepted)) k s
      (sym (ap (λ l. slice_get l k) (elements_named (settled accepted line) i p is)) ∙ there))

  events_before : (i j : ℕ) (p : Name) (k : Position) (e : EventTree) → name_of (settled accepted line) i ≡ Some p → name_of accepted j ≡ Some p
      → events_at (settled accepted line) (record { process = i; position = k }) ≡ Some e → events_at accepted (record { process = j; position = k }) ≡ Some e
  events_before i j p (At k) e is is' there = by (element (settled accepted line) i k) refl there
    where
      by : (o : Option Stamp) → element (settled accepted line) i k ≡ o → option_map (λ (y : Stamp). y.events) o ≡ Some e → events_at accepted (record { process = j; position = At k }) ≡ Some e
      by None none found = absurd (no_events e found)
      by (Some s) some found = ap (option_map (λ (y : Stamp). y.events)) (element_before i j p k s is is' some) ∙ found
  events_before i j p Retired e is is' there =
      let here : is_retired (settled accepted line) i ≡ true = retired_if (is_retired (settled accepted line) i) (option_map (λ name. last_events name (settled accepted line)) (name_of (settled accepted line) i)) e there in
      let retired : is_some (target_of p (settled accepted line)) ≡ true = sym (ap (λ (o : Option Name). option_map_or (λ name. is_some (target_of name (settled accepted line))) o false) is) ∙ here in
      let position : position_in line j ≡ Retired = (settled_retired accepted failed line j p folded greatest is').0 retired in
      let count : limits_of accepted line p ≡ reports_of p accepted = limit_at accepted failed line j p folded greatest is' Retired position in
      let last : last_report p (settled accepted line) ≡ last_report p accepted = (all_settled folded p (omega arith)).last in
      let w = retirement_of (last_report p (settled accepted line)) retired in
      let in_settled : last_events p (settled accepted line) ≡ events_after (Some (Numbered w.report)) = ap (λ o. events_after (first_of o (birth_report p (settled accepted line)))) w.is in
      let in_accepted : last_events p accepted ≡ events_after (Some (Numbered w.report)) = ap (λ o. events_after (first_of o (birth_report p accepted))) (sym last ∙ w.is) in
      let retired_before : is_some (target_of p accepted) ≡ true = sym (ap (λ o. is_some (target_after o)) last) ∙ retired in
      retired_named accepted j p is' retired_before ∙ (ap Some (in_accepted ∙ sym in_settled) ∙ (sym (retired_named (settled accepted line) i p is retired) ∙ there))

  knows_before : (i j a b : ℕ) (p q : Name) (k l : Position) → name_of (settled accepted line) i ≡ Some p → name_of (settled accepted line) j ≡ Some q
      → name_of accepted a ≡ Some p → name_of accepted b ≡ Some q
      → Knows (settled accepted line) (record { process = i; position = k }) j l → Knows accepted (record { process = a; position = k }) b l
  knows_before i j a b p q k Retired is is' was was' knows = knows
  knows_before i j a b p q k (At l) is is' was was' knows =
      let w : KnowsAfter (settled accepted line) (record { process = i; position = k }) j l = knows.1 in (
        λ same.
            knows.0 (same_number_of (settled accepted line) (settled_is_folded accepted failed line folded greatest.is_one) j i p
            (is' ∙ ap Some (one_name q p (sym was' ∙ (ap (name_of accepted) same ∙ was)))) is),
        record {
          later = w.later;
          stamp = w.stamp;
          from = w.from;
          first = w.first;
          is_element = element_before j b q w.later w.stamp is' was' w.is_element;
          beyond = record { events = w.beyond.events; there = events_before i a p k w.beyond.events is was w.beyond.there; exceeds = w.beyond.exceeds };
        },
      )

  pub stays_safe : IsSafeCut (settled accepted line) cut
  stays_safe = record {
    lasts = λ p. lasts_by p (cut p) refl (safe.lasts p);
    consistent = λ i j p q is is' knows.
        (let a = number_before i p is in
        let b = number_before j q is' in
        safe.consistent a.0 b.0 p q a.1 b.1 (knows_before i j a.0 b.0 p q (cut p) (cut q) is is' a.1 b.1 knows));
  }

pub safe_cuts_stay : SafeCutsStay
safe_cuts_stay accepted cut failed line folded safe greatest = stays_safe accepted cut failed line folded safe greatest
