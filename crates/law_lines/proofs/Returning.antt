-- In what is kept the newest event of a process is that of its element in the line.
use Rattle.std.proofs.Common.{◌≡◌, ◌≢◌, ℕ, zero, suc, ◌≤◌, ◌<◌, List, [], ◌∷◌, Some, length, refl, sym, ◌∙◌, ap, subst, inl, inr, arith}
use Rattle.std.specs.Prelude.{slice_get, take}
use Rattle.std.specs.Option.{option_map}
use Rattle.std.proofs.lemmas.Bool.{cases_Bool}
use Rattle.std.proofs.lemmas.Option.{slice_get_within}
use Rattle.stamp.specs.declared.stamp.Stamp.{Stamp}
use Rattle.report_line.specs.declared.report.Report.{Report}
use Rattle.report_line.specs.declared.step.StepKind.TheVariants.{Retire}
use Rattle.report_line.specs.histories.History.{Name, History, Event, EventKind, Does}
use Rattle.law_histories.specs.Law.{IsRestorable, birth, check, presentation}
use Rattle.law_histories.specs.Rules.{IsNewest}
use Rattle.chains.specs.declared.position.Position.{Position}
use Rattle.chains.specs.declared.position.Position.TheVariants.{At}
use Rattle.chains.specs.Processes.{known}
use Rattle.chains.specs.Elements.{name_of, elements_of, element}
use Rattle.chains.specs.Positions.{position_in, rank, IsChosen}
use Rattle.chains.specs.Greatest.{IsGreatestCut}
use Rattle.chains.proofs.Counting.{elements_is}
use Rattle.law_histories.specs.Kept.{Cut, kept, IsSameEvent, IsNewestIn}
use Rattle.law_histories.proofs.Carried.{position_is_newest}
use Rattle.law_lines.specs.Places.{IsPremise, IsEventAt, place, IsUpTo, IsInCut}
use Rattle.law_lines.proofs.Known.{same_number_of}
use Rattle.law_lines.proofs.Ordered.{one_event, element_at}
use Rattle.law_lines.proofs.Placed.{element_event}
use Rattle.law_lines.proofs.Closing.{none_failed, chosen_event}
use Rattle.law_lines.specs.Settled.{settled}
use Rattle.law_lines.specs.Agreeing.{HasEventsOf}
use Rattle.law_lines.specs.Returned.{IsAtElement}
use Rattle.law_lines.proofs.SettledAgreeing.{closed}
use Rattle.law_lines.proofs.Elements.{settled_elements}
use Rattle.law_lines.proofs.Standing.{settled_known}

-- a front has what it ends with
last_of_front : {X : Type 0} (xs : List X) (k : ℕ) → slice_get (take (suc k) xs) k ≡ slice_get xs k
last_of_front [] k = refl
last_of_front (x ∷ xs) zero = refl
last_of_front (x ∷ xs) (suc k) = last_of_front xs k

restorable_lives : (kind : EventKind) → IsRestorable kind → (q : Name) → kind ≢ Does (Retire q)
restorable_lives kind birth q = λ e. cc
restorable_lives kind check q = λ e. cc
restorable_lives kind presentation q = λ e. cc

above_zero : {k : ℕ} → At (suc k) ≡ At 0 → ⊥
above_zero e = cc

same_name_of : (p q : Name) → Some p ≡ Some q → p ≡ q
same_name_of p q is = cc

module _ (root : Name) (h : History) (accepted : List Report) (failed : List ℕ) (line : List Position) (cut : Cut) (i k : ℕ) (p : Name) (premise : IsPremise root h accepted)
    (greatest : IsGreatestCut accepted failed line) (has : HasEventsOf root h accepted line cut) (named : name_of accepted i ≡ Some p) (at : position_in line i ≡ At (suc k)) where
  inside : i < length (known accepted)
  inside = slice_get_within (known accepted) i p named

  chosen : (e : Event) × IsEventAt root h accepted (place i (At (suc k))) e
  chosen = chosen_event root h accepted premise i k (none_failed accepted failed i (At (suc k)) (subst (IsChosen accepted failed i) at (greatest.is_one.is_cut.chosen i inside)))

  -- the element of the line, and its event
  abbrev made : Stamp
  made = (element_at root h accepted i (suc k) chosen.0 chosen.1).0

  made_there : element accepted i (suc k) ≡ Some made
  made_there = (element_at root h accepted i (suc k) chosen.0 chosen.1).1

  by_element : (e : Event) × IsEventAt root h accepted (place i (At (suc k))) e × (e.id ≡ made.id) × IsRestorable e.kind
  by_element = element_event root h accepted premise.agrees i (suc k) made made_there

  abbrev at_line : Event
  at_line = by_element.0

  of_p : at_line.process ≡ p
  of_p = same_name_of at_line.process p (sym by_element.1.of_process ∙ named)

  -- it is the newest of its process in the cut
  in_line : IsInCut root h accepted line at_line
  in_line = record {
    process = i;
    is_known = inside;
    of_process = by_element.1.of_process;
    up_to = subst (λ (j : Position). IsUpTo root h accepted i j at_line) (sym at) (at_line, by_element.1, omega arith);
  }

  not_later : (y : Event) → y.process ≡ p → IsInCut root h accepted line y → y.number ≤ at_line.number
  not_later y of_y w =
      let same : w.process ≡ i = same_number_of accepted premise.folded w.process i p (w.of_process ∙ ap Some of_y) named in
      let up = subst (λ (j : Position). IsUpTo root h accepted i j y) at (subst (λ (j : ℕ). IsUpTo root h accepted j (position_in line j) y) same w.up_to) in
      let one : up.0 ≡ at_line = one_event root h accepted premise.lawful (place i (At (suc k))) up.0 at_line up.1 by_element.1 in
      subst (λ (x : Event). y.number ≤ x.number) one up.2

  newest_in : IsNewestIn root h cut at_line
  newest_in = record {
    occurs = by_element.1.occurs;
    in_cut = (has at_line).1 in_line;
    newest = λ y occurs of_y later.
        elim (cases_Bool (cut y)) [
          | inl reached ↦ (let no_later = not_later y (of_y ∙ of_p) ((has y).0 reached) in absurd (omega arith))
          | inr beyond ↦ beyond
        ];
  }

  lives : (y : Event) × IsSameEvent at_line y × IsNewest root (kept cut h) at_line.process y
  lives = position_is_newest root h cut at_line premise.lawful (closed root h accepted failed line premise cut greatest.is_one has) newest_in (restorable_lives at_line.kind by_element.3)

  -- the element is in the settled list what it was
  element_stays : (j : ℕ) → name_of (settled accepted line) j ≡ Some p → element (settled accepted line) j (suc k) ≡ element accepted i (suc k)
  element_stays j named_there =
      ap (λ (l : List Stamp). slice_get l k) (elements_is (settled accepted line) j p named_there ∙ settled_elements accepted failed line i p premise.folded greatest named
      ∙ ap (λ (q : Position). take (rank accepted i q) (elements_of p accepted)) at)
      ∙ (last_of_front (elements_of p accepted) k ∙ sym (ap (λ (l : List Stamp). slice_get l k) (elements_is accepted i p named)))

  pub returned : IsAtElement root (kept cut h) (settled accepted line) p (suc k)
  returned =
      let same : IsSameEvent at_line lives.0 = lives.1 in
      record {
        is_known = (settled_known accepted failed line i p premise.folded greatest named).1 (λ unborn. above_zero (sym at ∙ unborn));
        event = lives.0;
        is_event = λ j named_there. record {
          occurs = lives.2.occurs;
          of_process = named_there ∙ ap Some (sym of_p ∙ same.process);
          values = ap (option_map (λ (s : Stamp). s.events)) (element_stays j named_there) ∙ by_element.1.values ∙ ap Some same.values;
        };
        newest = subst (λ (q : Name). IsNewest root (kept cut h) q lives.0) of_p lives.2;
      }
