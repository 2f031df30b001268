-- What a place knows is what is in its past.
use Rattle.std.proofs.Common.{◌≡◌, ◌≢◌, ℕ, zero, suc, ◌<◌, ◌≤◌, Some, None, Option, List, [], length, refl, sym, ◌∙◌, ap, subst, inl, inr, arith}
use Rattle.std.specs.Prelude.{Contains, slice_get, ◌↔◌, IsTrue}
use Rattle.std.specs.Str.{bytes_eq}
use Rattle.std.specs.Option.{option_map, option_map_or}
use Rattle.std.proofs.lemmas.Bool.{cond-true, cases_lt}
use Rattle.std.proofs.lemmas.Option.{slice_get_cases, slice_get_within, get_or_from_slice_get}
use Rattle.id_tree.specs.IdTree.{IdTree, One}
use Rattle.id_tree.specs.Points.{owns}
use Rattle.event_tree.specs.EventTree.{EventTree, Leaf}
use Rattle.event_tree.specs.Values.{value_at, ExceedsOn}
use Rattle.stamp.specs.declared.stamp.Stamp.{Stamp}
use Rattle.report_line.specs.declared.report.ReportKind.{ReportKind}
use Rattle.report_line.specs.declared.report.ReportKind.TheVariants as reported
use Rattle.report_line.specs.declared.report.Report.{Report}
use Rattle.report_line.specs.declared.report.Report.TheVariants.{Begin, Numbered}
use Rattle.chains.specs.declared.position.Place.{Place}
use Rattle.chains.specs.declared.position.Position.{Position}
use Rattle.chains.specs.declared.position.Position.TheVariants.{At, Retired}
use Rattle.chains.specs.Processes.{child_of, newborn, known, last_report}
use Rattle.chains.specs.Elements.{stable_by, stable_made, stable_of, present_in, elements_of, name_of, elements, element}
use Rattle.chains.specs.Positions.{IsChosen}
use Rattle.chains.specs.Knowledge.{Knows}
use Rattle.chains.specs.Folded.{IsFolded}
use Rattle.chains.proofs.Distinct.{distinct_known}
use Rattle.report_line.specs.histories.History.{Name, History, Birth, Event, birth_of_root}
use Rattle.report_line.specs.histories.Events.{Occurs}
use Rattle.law_histories.specs.Law.{IsBeyond, LaterIsInPast, SomeIsInPast}
use Rattle.chains.specs.Agrees.{Agrees}
use Rattle.law_lines.specs.Places.{IsPremise, IsEventAt, place, IsUpTo, SomeAfterIsInPast}
use Rattle.law_histories.proofs.Bytes.{bytes_same}
use Rattle.law_lines.proofs.Listed.{made_in, in_made, at_front}
use Rattle.law_histories.proofs.Later.{beyond_is_seen_later, beyond_birth_is_seen}
use Rattle.law_histories.proofs.Reported.{birth_of_report}
use Rattle.law_lines.proofs.Agreeing.{agreed}
use Rattle.law_lines.proofs.Placed.{root_occurs, element_event}
use Rattle.law_lines.proofs.Ordered.{same_name, same_values, in_order}

-- ---- the birth of a known process is an element

pub record IsBirthEvent (root : Name) (h : History) (p : Name) (s : Stamp) (e : Event) : Type 0 where
  pub occurs : Occurs root h e
  pub process : e.process ≡ p
  pub id : e.id ≡ s.id
  pub values : e.values ≡ s.events
  pub kind : e.kind ≡ Birth

born_by : (root : Name) (h : History) (accepted : List Report) → Agrees root h accepted → (p : Name) (r : Report) → Contains accepted r → newborn r ≡ Some p
    → (s : Stamp) × (e : Event) × (stable_made p r ≡ Some s) × IsBirthEvent root h p s e
born_by root h accepted agrees p (Begin q) at is =
    let s : Stamp = record { id = One; events = Leaf 0 } in
    let same : q ≡ p = same_name q p is in (
      s,
      birth_of_root root,
      cond-true (bytes_eq p q) (Some s) None (bytes_same p q (sym same)),
      record { occurs = root_occurs root h; process = sym (agrees.begins q at) ∙ same; id = refl; values = refl; kind = refl },
    )
born_by root h accepted agrees p (Numbered r) at is = by r.action refl is
  where
    by : (b : ReportKind) → r.action ≡ b → child_of b ≡ Some p → (s : Stamp) × (e : Event) × (stable_by p r b ≡ Some s) × IsBirthEvent root h p s e
    by (reported.Fork f) forks born_is =
        let s : Stamp = record { id = f.given; events = r.stamp.events } in
        let same : f.child ≡ p = same_name f.child p born_is in
        let of = agreed root h accepted r agrees at in
        let born = birth_of_report root h of.0 r f forks of.1 in (
          s,
          born.0,
          cond-true (bytes_eq p f.child) (Some s) None (bytes_same p f.child (sym same)),
          record { occurs = born.1.occurs; process = born.1.process ∙ same; id = born.1.id; values = born.1.values; kind = born.1.kind },
        )
    by _ forks born_is = absurd (cc)

pub birth_element : (root : Name) (h : History) (accepted : List Report) → Agrees root h accepted → (q : ℕ) (p : Name) → name_of accepted q ≡ Some p
    → (k : ℕ) × (s : Stamp) × (e : Event) × (element accepted q (suc k) ≡ Some s) × IsBirthEvent root h p s e
birth_element root h accepted agrees q p is =
    let made = made_in newborn accepted q p is in
    let born = born_by root h accepted agrees p made.0 made.1 made.2 in
    let there = in_made (stable_made p) accepted made.0 born.0 made.1 born.2 in (
      there.0,
      born.0,
      born.1,
      ap (λ (o : Option Name). slice_get (option_map_or (λ name. elements_of name accepted) o []) there.0) is
          ∙ at_front (stable_of p accepted) (present_in (last_report p accepted)) there.0 born.0 there.1,
      born.3,
    )

-- ---- names of two numbers differ

pub other_names : (accepted : List Report) → IsFolded accepted → (i j : ℕ) (p q : Name) → name_of accepted i ≡ Some p → name_of accepted j ≡ Some q → i ≢ j → p ≢ q
other_names accepted folded i j p q is is' differ same =
    differ (distinct_known accepted folded i j p (slice_get_within (known accepted) i p is) (slice_get_within (known accepted) j q is')
    (get_or_from_slice_get (known accepted) i p p is ∙ same ∙ sym (get_or_from_slice_get (known accepted) j q p is')))

pub same_number_of : (accepted : List Report) → IsFolded accepted → (i j : ℕ) (p : Name) → name_of accepted i ≡ Some p → name_of accepted j ≡ Some p → i ≡ j
same_number_of accepted folded i j p is is' =
    distinct_known accepted folded i j p (slice_get_within (known accepted) i p is) (slice_get_within (known accepted) j p is')
    (get_or_from_slice_get (known accepted) i p p is ∙ sym (get_or_from_slice_get (known accepted) j p p is'))

-- ---- beyond an element, beyond its event

exceeds_same : (i j : IdTree) (d e f g : EventTree) → i ≡ j → d ≡ e → f ≡ g → ExceedsOn i d f → ExceedsOn j e g
exceeds_same i j d e f g is_i is_d is_f w =
    let a : value_at d w.0 ≡ value_at e w.0 = ap (λ (x : EventTree). value_at x w.0) is_d in
    let b : value_at f w.0 ≡ value_at g w.0 = ap (λ (x : EventTree). value_at x w.0) is_f in
    let less : value_at f w.0 < value_at d w.0 = w.2 in
    (w.0, subst (λ (x : IdTree). IsTrue (owns x w.0)) is_i w.1, omega arith)

-- ---- the law

module _ (root : Name) (h : History) (accepted : List Report) (premise : IsPremise root h accepted) (x : Place) (e : Event) (at : IsEventAt root h accepted x e) (q : ℕ) where
  -- what is known is in the past
  known_in_past : (j : ℕ) → Knows accepted x q (At j) → SomeAfterIsInPast root h accepted e q (At j)
  known_in_past j knows =
      let w = knows.1 in
      let y = element_event root h accepted premise.agrees q w.later w.stamp w.is_element in
      let y_values : w.stamp.events ≡ y.0.values = same_values _ _ (sym (ap (option_map (λ (s : Stamp). s.events)) w.is_element) ∙ y.1.values) in
      let e_values : w.beyond.events ≡ e.values = same_values _ _ (sym w.beyond.there ∙ at.values) in
      let beyond : IsBeyond e y.0 = exceeds_same w.stamp.id y.0.id w.beyond.events e.values w.stamp.events y.0.values (sym y.2) e_values y_values w.beyond.exceeds in
      let v = (beyond_is_seen_later root h e y.0 premise.lawful at.occurs y.1.occurs y.3).0 beyond in
      let later : y.0.number < v.seen.number = v.later in
      record {
        seen = v.seen;
        occurs = v.occurs;
        of_process = y.1.of_process ∙ ap Some (sym v.same_process);
        after = not_up_to j w.later y.0 v.seen w.from y.1 later;
        in_past = v.in_past;
      }
    where
      not_up_to : (j l : ℕ) (y z : Event) → j ≤ l → IsEventAt root h accepted (place q (At l)) y → y.number < z.number → ¬ IsUpTo root h accepted q (At j) z
      not_up_to zero l y z le at_y less up = up
      not_up_to (suc i) l y z le at_y less up =
          let order : up.0.number ≤ y.number = in_order root h accepted premise.folded premise.lawful q (suc i) l up.0 y le up.1 at_y in
          let within : z.number ≤ up.0.number = up.2 in
          omega arith

  -- what is in the past is known: after the birth
  past_known_birth : q < length (known accepted) → q ≢ x.process → SomeAfterIsInPast root h accepted e q (At 0) → Knows accepted x q (At 0)
  past_known_birth is_known other v =
      let b = birth_element root h accepted premise.agrees q v.seen.process v.of_process in
      let y = b.2 in
      let differs : e.process ≢ y.process = λ same. other_names accepted premise.folded x.process q e.process v.seen.process at.of_process v.of_process (λ is. other (sym is)) (same ∙ b.4.process) in
      let some : SomeIsInPast root h e y.process = record { seen = v.seen; occurs = v.occurs; same_process = sym b.4.process; in_past = v.in_past } in
      let beyond : IsBeyond e y = (beyond_birth_is_seen root h e y premise.lawful at.occurs b.4.occurs b.4.kind differs).1 some in (
        other,
        record {
          later = suc b.0;
          stamp = b.1;
          from = omega arith;
          first = omega arith;
          is_element = b.3;
          beyond = record { events = e.values; there = at.values; exceeds = exceeds_same y.id b.1.id e.values e.values y.values b.1.events b.4.id refl b.4.values beyond };
        },
      )

  -- and after an element
  past_known_element : (i : ℕ) (s : Stamp) → element accepted q (suc i) ≡ Some s → q ≢ x.process → SomeAfterIsInPast root h accepted e q (At (suc i)) → Knows accepted x q (At (suc i))
  past_known_element i s is_element other v =
      let y = element_event root h accepted premise.agrees q (suc i) s is_element in
      let y_values : y.0.values ≡ s.events = same_values _ _ (sym y.1.values ∙ ap (option_map (λ (t : Stamp). t.events)) is_element) in
      elim (cases_lt y.0.number v.seen.number) [
        | inl less ↦
            (let later : LaterIsInPast root h e y.0 = record {
              seen = v.seen;
              occurs = v.occurs;
              same_process = same_name _ _ (sym v.of_process ∙ y.1.of_process);
              later = less;
              in_past = v.in_past;
            } in
            let beyond : IsBeyond e y.0 = (beyond_is_seen_later root h e y.0 premise.lawful at.occurs y.1.occurs y.3).1 later in (
              other,
              record {
                later = suc i;
                stamp = s;
                from = omega arith;
                first = omega arith;
                is_element = is_element;
                beyond = record { events = e.values; there = at.values; exceeds = exceeds_same y.0.id s.id e.values e.values y.0.values s.events y.2 refl y_values beyond };
              },
            ))
        | inr no_later ↦ absurd (v.after (y.0, y.1, no_later))
      ]

  past_known_at : (i : ℕ) → IsChosen accepted [] q (At (suc i)) → q ≢ x.process → SomeAfterIsInPast root h accepted e q (At (suc i)) → Knows accepted x q (At (suc i))
  past_known_at i (inl is) other v = absurd (cc)
  past_known_at i (inr chosen) other v =
      let within : suc i ≤ length (elements accepted q) = chosen.1 in
      elim (slice_get_cases (elements accepted q) i).1 [
        | inl there ↦ past_known_element i there.0 there.2 other v
        | inr past ↦ (let out : length (elements accepted q) ≤ i = past.0 in absurd (omega arith))
      ]

  pub the_law : (k : Position) → q < length (known accepted) → q ≢ x.process → IsChosen accepted [] q k → Knows accepted x q k ↔ SomeAfterIsInPast root h accepted e q k
  the_law (At zero) is_known other chosen = (known_in_past 0, past_known_birth is_known other)
  the_law (At (suc i)) is_known other chosen = (known_in_past (suc i), past_known_at i chosen other)
  the_law Retired is_known other chosen = (λ knows. absurd knows, λ v. absurd (v.after tt))
