-- In what is kept a process that the line leaves unborn has no event, and so each process is at its position in the line.
use Rattle.std.proofs.Common.{◌≡◌, ◌≢◌, ℕ, zero, suc, ◌≤◌, true, false, List, [], ◌∷◌, Option, Some, refl, sym, ◌∙◌, ap, subst, inl, inr}
use Rattle.std.specs.Option.{option_map_or, is_some}
use Rattle.std.proofs.lemmas.Bool.{cases_Bool}
use Rattle.id_tree.specs.IdTree.{IdTree}
use Rattle.report_line.specs.declared.report.Report.{Report}
use Rattle.report_line.specs.declared.report.Report.TheVariants.{Begin}
use Rattle.report_line.specs.declared.step.StepKind.TheVariants.{Fork, Retire}
use Rattle.report_line.specs.declared.step.Step.{Step}
use Rattle.report_line.specs.histories.History.{Name, History, Does, Event, event_of}
use Rattle.report_line.specs.histories.Events.{Occurs, step, earlier}
use Rattle.law_histories.proofs.Chain.{first_occurs, old, stepped, child, entry}
use Rattle.law_histories.proofs.Retiring.{none_after}
use Rattle.chains.specs.declared.position.Position.{Position}
use Rattle.chains.specs.declared.position.Position.TheVariants.{At, Retired}
use Rattle.chains.specs.Processes.{IsKnown, target_of}
use Rattle.chains.specs.Elements.{name_of}
use Rattle.chains.specs.Positions.{is_retired, position_in}
use Rattle.chains.specs.Greatest.{IsGreatestCut}
use Rattle.chains.proofs.LookUps.{known_from}
use Rattle.law_histories.specs.Kept.{Cut, kept}
use Rattle.law_histories.proofs.Follows.{kept_taken, kept_left}
use Rattle.law_lines.specs.Places.{IsPremise, IsEventAt, place, IsUpTo}
use Rattle.law_lines.proofs.Known.{same_number_of}
use Rattle.law_lines.proofs.Listed.{filter_in}
use Rattle.law_lines.proofs.Placed.{IsAccepted}
use Rattle.law_lines.proofs.Ordered.{same_name, retirement_event}
use Rattle.law_lines.proofs.Closing.{place_source}
use Rattle.law_lines.proofs.Unknown.{begun, known_by, child_known}
use Rattle.law_lines.specs.Settled.{limits_of, is_settled, settled}
use Rattle.law_lines.specs.Agreeing.{HasEventsOf}
use Rattle.law_lines.specs.Returned.{IsAt, IsAtRetirement, EachReturnsToItsPosition}
use Rattle.law_lines.proofs.SettledClosing.{known_number}
use Rattle.law_lines.proofs.Returning.{returned}
use Rattle.law_lines.proofs.Runs.{settled_agrees}
use Rattle.law_lines.proofs.Standing.{settled_known, settled_retired}

-- Where an event of what is kept comes from: it is the root's birth, or its step is in the cut, or it is the birth by a fork that is.
data Origin (root : Name) (g : History) (cut : Cut) (x : Event) : Type 0 where
  of_root : x.process ≡ root → Origin root g cut x
  of_step : (y : Event) → cut y ≡ true → y.process ≡ x.process → Origin root g cut x
  of_fork : (f y : Event) (i : IdTree) → cut y ≡ true → y.process ≡ f.process → Occurs root g f → f.kind ≡ Does (Fork x.process i) → Origin root g cut x

one_more : (root : Name) (g : History) (s : Step) (cut : Cut) (x : Event) → Origin root g cut x → Origin root (s ∷ g) cut x
one_more root g s cut x (of_root is) = of_root is
one_more root g s cut x (of_step y inside same) = of_step y inside same
one_more root g s cut x (of_fork f y i inside same occurs forks) = of_fork f y i inside same (earlier occurs) forks

taken : (root : Name) (h : History) (s : Step) (cut : Cut) (x : Event) → cut (event_of h s) ≡ true → (Occurs root (kept cut h) x → Origin root (kept cut h) cut x)
    → Occurs root (s ∷ kept cut h) x → Origin root (s ∷ kept cut h) cut x
taken root h s cut x reached before occurs =
    let g : History = kept cut h in
    elim (entry occurs) [
      | old there ↦ one_more root g s cut x (before there)
      | stepped is ↦ of_step (event_of h s) reached (sym (ap (λ (e : Event). e.process) is))
      | child {c = c} {i = i} forks is ↦
          of_fork (event_of g s) (event_of h s) i reached refl step (ap Does forks ∙ ap (λ (n : Name). Does (Fork n i)) (sym (ap (λ (e : Event). e.process) is)))
    ]

origin : (root : Name) (h : History) (cut : Cut) (x : Event) → Occurs root (kept cut h) x → Origin root (kept cut h) cut x
unfolding kept
origin root [] cut x occurs = of_root (ap (λ (e : Event). e.process) (first_occurs occurs))
origin root (s ∷ h) cut x occurs =
    elim (cases_Bool (cut (event_of h s))) [
      | inl reached ↦
          subst (λ (g : History). Origin root g cut x) (sym (kept_taken cut h s reached))
          (taken root h s cut x reached (origin root h cut x) (subst (λ (g : History). Occurs root g x) (kept_taken cut h s reached) occurs))
      | inr beyond ↦
          subst (λ (g : History). Origin root g cut x) (sym (kept_left cut h s beyond))
          (origin root h cut x (subst (λ (g : History). Occurs root g x) (kept_left cut h s beyond) occurs))
    ]

never_both : (let k : Position = Retired in k) ≡ At 0 → ⊥
never_both e = cc

module _ (root : Name) (h : History) (accepted : List Report) (failed : List ℕ) (line : List Position) (cut : Cut) (premise : IsPremise root h accepted)
    (greatest : IsGreatestCut accepted failed line) (has : HasEventsOf root h accepted line cut) where
  after : IsPremise root (kept cut h) (settled accepted line)
  after = settled_agrees root h accepted failed line cut premise greatest.is_one has

  -- a process that the line leaves retired is retired in what is kept
  kept_known : (j : ℕ) (p : Name) → name_of accepted j ≡ Some p → position_in line j ≡ Retired → IsKnown (settled accepted line) p
  kept_known j p named at = (settled_known accepted failed line j p premise.folded greatest named).1 (λ unborn. never_both (sym at ∙ unborn))

  abbrev HasRetirement : Name → Type 0
  HasRetirement p =
      (n : ℕ) × (name_of (settled accepted line) n ≡ Some p)
      × ((e : Event) × IsEventAt root (kept cut h) (settled accepted line) (place n Retired) e × ((q : Name) × (e.kind ≡ Does (Retire q))) × IsAccepted root (kept cut h) (settled accepted line) e.process e)

  kept_retirement : (j : ℕ) (p : Name) → name_of accepted j ≡ Some p → position_in line j ≡ Retired → HasRetirement p
  kept_retirement j p named at =
      let retired = (settled_retired accepted failed line j p premise.folded greatest named).1 at in
      let n = known_number (settled accepted line) p (kept_known j p named at) in
      let is_one : is_retired (settled accepted line) n.0 ≡ true =
      ap (λ (o : Option Name). option_map_or (λ name. is_some (target_of name (settled accepted line))) o false) n.1 ∙ retired
      in
      (n.0, n.1, retirement_event root (kept cut h) (settled accepted line) after.agrees n.0 is_one)

  of_retired : (p : Name) (w : HasRetirement p) → w.2.0.process ≡ p
  of_retired p w = same_name w.2.0.process p (sym w.2.1.of_process ∙ w.1)

  last_of_retired : (p : Name) (w : HasRetirement p) (y : Event) → Occurs root (kept cut h) y → y.process ≡ p → y.number ≤ w.2.0.number
  last_of_retired p w y occurs of_p = none_after after.lawful w.2.0 w.2.2.0 w.2.1.occurs w.2.2.1 y occurs (of_p ∙ sym (of_retired p w))

  at_retirement : (j : ℕ) (p : Name) → name_of accepted j ≡ Some p → position_in line j ≡ Retired → IsAtRetirement root (kept cut h) (settled accepted line) p
  at_retirement j p named at =
      let w = kept_retirement j p named at in
      record {
        is_known = kept_known j p named at;
        event = w.2.0;
        is_event = λ i named_there.
            (let one : w.0 ≡ i = same_number_of (settled accepted line) after.folded w.0 i p w.1 named_there in
            subst (λ (k : ℕ). IsEventAt root (kept cut h) (settled accepted line) (place k Retired) w.2.0) one w.2.1);
        retires = w.2.2;
        newest = last_of_retired p w;
      }

  -- the child of a fork that is kept is known
  child_is_known : (f : Event) (c : Name) (i : IdTree) → Occurs root (kept cut h) f → f.kind ≡ Does (Fork c i) → (j : ℕ) → name_of accepted j ≡ Some f.process
      → (k : Position) → position_in line j ≡ k → k ≢ At 0 → IsKnown (settled accepted line) c
  child_is_known f c i occurs forks j named (At zero) at above = absurd (above refl)
  child_is_known f c i occurs forks j named (At (suc k)) at above =
      let there = returned root h accepted failed line cut j k f.process premise greatest has named at in
      let n = known_number (settled accepted line) f.process there.is_known in
      let event : Event = there.event in
      let same : f.process ≡ event.process = sym there.newest.of_process in
      child_known root (kept cut h) (settled accepted line) after.lawful after.agrees f event c i occurs forks there.newest.occurs same
      (place_source root (kept cut h) (settled accepted line) after n.0 (suc k) event (there.is_event n.0 n.1)) (there.newest.newest f occurs refl)
  child_is_known f c i occurs forks j named Retired at above =
      let w = kept_retirement j f.process named at in
      child_known root (kept cut h) (settled accepted line) after.lawful after.agrees f w.2.0 c i occurs forks w.2.1.occurs (sym (of_retired f.process w)) (inr w.2.3)
      (last_of_retired f.process w f occurs refl)

  unborn : (i : ℕ) (p : Name) → name_of accepted i ≡ Some p → position_in line i ≡ At 0 → IsKnown (settled accepted line) p → ⊥
  unborn i p named at there = (settled_known accepted failed line i p premise.folded greatest named).0 there at

  no_event : (i : ℕ) (p : Name) → name_of accepted i ≡ Some p → position_in line i ≡ At 0 → (x : Event) → x.process ≡ p → Origin root (kept cut h) cut x → ⊥
  no_event i p named at x of_p (of_root is) =
      let w = begun accepted premise.folded p (known_from accepted i p named) in
      let is_root : w.0 ≡ p = premise.agrees.begins w.0 w.1 ∙ (sym is ∙ of_p) in
      unborn i p named at
      (known_by (settled accepted line) (Begin w.0) p (filter_in (is_settled (limits_of accepted line)) accepted (Begin w.0) w.1 refl) (ap Some is_root))
  no_event i p named at x of_p (of_step y inside same) =
      let w = (has y).0 inside in
      let number : w.process ≡ i = same_number_of accepted premise.folded w.process i p (w.of_process ∙ ap Some (same ∙ of_p)) named in
      subst (λ (k : Position). IsUpTo root h accepted i k y) at (subst (λ (j : ℕ). IsUpTo root h accepted j (position_in line j) y) number w.up_to)
  no_event i p named at x of_p (of_fork f y g inside same occurs forks) =
      let w = (has y).0 inside in
      unborn i p named at
      (child_is_known f p g occurs (forks ∙ ap (λ (n : Name). Does (Fork n g)) of_p) w.process (w.of_process ∙ ap Some same) (position_in line w.process) refl
      (λ none. subst (λ (k : Position). IsUpTo root h accepted w.process k y) none w.up_to))

  at_position : (i : ℕ) (p : Name) → name_of accepted i ≡ Some p → (k : Position) → position_in line i ≡ k → IsAt root (kept cut h) (settled accepted line) p k
  at_position i p named (At zero) at = λ x occurs of_p. no_event i p named at x of_p (origin root h cut x occurs)
  at_position i p named (At (suc k)) at = returned root h accepted failed line cut i k p premise greatest has named at
  at_position i p named Retired at = at_retirement i p named at

pub each_returns_to_its_position : EachReturnsToItsPosition
each_returns_to_its_position root h accepted failed line cut i p premise greatest has named =
    at_position root h accepted failed line cut premise greatest has i p named (position_in line i) refl
