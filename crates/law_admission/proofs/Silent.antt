-- The tie after a step that is not reported.
use Rattle.std.proofs.Common.{◌≡◌, ◌≢◌, false, List, ◌∷◌, None, refl, sym, ◌∙◌, ap, subst}
use Rattle.std.specs.Str.{bytes_eq}
use Rattle.std.proofs.lemmas.Bool.{cond-false, and_right}
use Rattle.id_tree.specs.IdTree.{IdTree}
use Rattle.report_line.specs.declared.report.Report.{Report}
use Rattle.report_line.specs.declared.step.StepKind.{StepKind}
use Rattle.report_line.specs.declared.step.StepKind.TheVariants.{Work, Check, Present, Send, Receive, Fork, Retire, Absorb}
use Rattle.report_line.specs.declared.step.Step.{Step}
use Rattle.report_line.specs.histories.History.{Name, Message, History, Event, Unborn, Living, Retired, status_of_actor, status, last_of, event_of}
use Rattle.report_line.specs.histories.Lawful.{IsSameId, IsAllowed}
use Rattle.report_line.specs.histories.StepReports.{is_reported, reporting_steps}
use Rattle.chains.specs.Processes.{IsKnown, last_report, last_events, target_of, is_absorbed, Waits}
use Rattle.law_histories.proofs.Status.{Holds}
use Rattle.law_histories.proofs.Steps.{never_falls_by}
use Rattle.law_admission.proofs.Changes.{acted, born, taken, kept, change, living_not_unborn, living_not_retired, living_holds}
use Rattle.law_admission.proofs.Tied.{IsHeld, AreTied, then_below}

data IsSilent : StepKind → Type 0 where
  works : IsSilent Work
  sends_one : (m : Message) → IsSilent (Send m)
  receives : (m : Message) → IsSilent (Receive m)

silent : (d : StepKind) → is_reported d ≡ false → IsSilent d
silent Work is = works
silent Check is = absurd (cc)
silent Present is = absurd (cc)
silent (Send m) is = sends_one m
silent (Receive m) is = receives m
silent (Fork c i) is = absurd (cc)
silent (Retire q) is = absurd (cc)
silent (Absorb r) is = absurd (cc)

silent_lives : (d : StepKind) (e : Event) → IsSilent d → status_of_actor d e ≡ Living e
silent_lives _ e works = refl
silent_lives _ e (sends_one m) = refl
silent_lives _ e (receives m) = refl

silent_forks : (d : StepKind) (c : Name) (i : IdTree) → IsSilent d → d ≢ Fork c i
silent_forks _ c i works is = cc
silent_forks _ c i (sends_one m) is = cc
silent_forks _ c i (receives m) is = cc

silent_absorbs : (d : StepKind) (r : Name) → IsSilent d → d ≢ Absorb r
silent_absorbs _ r works is = cc
silent_absorbs _ r (sends_one m) is = cc
silent_absorbs _ r (receives m) is = cc

silent_id : (root : Name) (h : History) (b : Event) (s : Step) (d : StepKind) → IsSilent d → IsAllowed root h b s d → IsSameId s.stamp.id b.id
silent_id root h b s _ works w = w.same_id
silent_id root h b s _ (sends_one m) w = w.0.same_id
silent_id root h b s _ (receives m) w = w.own.same_id

-- how each process stands: the actor lives on, and all others as before
data Quiet (root : Name) (h : History) (s : Step) (q : Name) : Type 0 where
  goes_on : q ≡ s.process → status root (s ∷ h) q ≡ Living (event_of h s) → Quiet root h s q
  as_before : status root (s ∷ h) q ≡ status root h q → Quiet root h s q

quiet : (root : Name) (h : History) (s : Step) → IsSilent s.step_kind → (q : Name) → Quiet root h s q
quiet root h s hush q = elim (change root h s q) [
  | acted is now ↦ goes_on is (now ∙ silent_lives s.step_kind (event_of h s) hush)
  | born i apart forks now ↦ absurd (silent_forks s.step_kind q i hush forks)
  | taken apart absorbs now ↦ absurd (silent_absorbs s.step_kind q hush absorbs)
  | kept apart no_fork no_absorption now ↦ as_before now
]

module _ (accepted : List Report) (root : Name) (h : History) (b : Event) (s : Step) (tied : AreTied accepted root h)
    (lives : status root h s.process ≡ Living b) (allowed : IsAllowed root h b s s.step_kind) (unreported : is_reported s.step_kind ≡ false) where
  hush : IsSilent s.step_kind
  hush = silent s.step_kind unreported

  same_count : (q : Name) → reporting_steps q (s ∷ h) ≡ reporting_steps q h
  same_count q = cond-false _ _ _ (and_right (bytes_eq q s.process) (is_reported s.step_kind) unreported)

  lived : (q : Name) → q ≡ s.process → status root h q ≡ Living b
  lived q is = ap (status root h) is ∙ lives

  held_on : (q : Name) (e : Event) → Quiet root h s q → Holds root (s ∷ h) q e → IsHeld accepted q e
  held_on q e (as_before now) holds = tied.held q e (ap last_of (sym now) ∙ holds)
  held_on q e (goes_on is now) holds =
      let before = tied.held q b (ap last_of (lived q is)) in
      let last : e ≡ event_of h s = living_holds (event_of h s) e (ap last_of (sym now) ∙ holds) in
      let id = silent_id root h b s s.step_kind hush allowed in
      subst (λ (d : Event). IsHeld accepted q d) (sym last) (record {
        normal = before.normal;
        same = λ point. id point ∙ before.same point;
        below = then_below (last_events q accepted) b.values s.stamp.events before.below (never_falls_by root h b s s.step_kind allowed);
      })

  living_on : (q : Name) (e : Event) → Quiet root h s q → status root (s ∷ h) q ≡ Living e → (target_of q accepted ≡ None) × (is_absorbed q accepted ≡ false)
  living_on q e (as_before now) is = tied.living q e (sym now ∙ is)
  living_on q e (goes_on same now) is = tied.living q b (lived q same)

  retired_on : (q : Name) (e : Event) (t : Name) → Quiet root h s q → status root (s ∷ h) q ≡ Retired e t → Waits accepted q t
  retired_on q e t (as_before now) is = tied.retired q e t (sym now ∙ is)
  retired_on q e t (goes_on same now) is = absurd (living_not_retired (event_of h s) e t (sym now ∙ is))

  born_on : (q : Name) → Quiet root h s q → IsKnown accepted q → status root (s ∷ h) q ≢ Unborn
  born_on q (as_before now) known is = tied.born q known (sym now ∙ is)
  born_on q (goes_on same now) known is = living_not_unborn (event_of h s) (sym now ∙ is)

  known_on : (q : Name) → Quiet root h s q → status root (s ∷ h) q ≢ Unborn → IsKnown accepted q
  known_on q (as_before now) is_born = tied.known q (λ unborn. is_born (now ∙ unborn))
  known_on q (goes_on same now) is_born = tied.known q (λ unborn. living_not_unborn b (sym (lived q same) ∙ unborn))

  unborn_on : (q : Name) → Quiet root h s q → status root (s ∷ h) q ≡ Unborn → (last_report q accepted ≡ None) × (is_absorbed q accepted ≡ false)
  unborn_on q (as_before now) is = tied.unborn q (sym now ∙ is)
  unborn_on q (goes_on same now) is = absurd (living_not_unborn (event_of h s) (sym now ∙ is))

  pub silent_tied : AreTied accepted root (s ∷ h)
  silent_tied = record {
    begun = tied.begun;
    born = λ q. born_on q (quiet root h s hush q);
    known = λ q. known_on q (quiet root h s hush q);
    count = λ q. tied.count q ∙ sym (same_count q);
    last = λ q r is. tied.last q r is ∙ sym (same_count q);
    unborn = λ q. unborn_on q (quiet root h s hush q);
    living = λ q e. living_on q e (quiet root h s hush q);
    retired = λ q e t. retired_on q e t (quiet root h s hush q);
    held = λ q e. held_on q e (quiet root h s hush q);
  }
