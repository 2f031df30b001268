-- What one call does to all that holds of a run and of the calls so far.
use Rattle.std.proofs.Common.{◌≡◌, ℕ, ◌≤◌, ◌<◌, Option, Some, None, [], ◌∷◌, length, inl, inr, refl, sym, ◌∙◌, ap, subst, arith}
use Rattle.std.specs.Prelude.{⊤}
use Rattle.std.proofs.lemmas.Bool.{cases_lt}
use Rattle.std.proofs.lemmas.Option.{none-some}
use Rattle.law_histories.proofs.Rules.{living_is_newest, law_obeys}
use Rattle.report_line.specs.declared.step.StepKind.{StepKind}
use Rattle.report_line.specs.declared.step.Step.{Step}
use Rattle.report_line.specs.histories.History.{Name, History}
use Rattle.report_line.specs.histories.Lawful.{IsAllowed, IsLawful, start, next}
use Rattle.law_lines.specs.Runs.{Run, Made, epoch, current, earlier}
use Rattle.law_turns.specs.Traces.{IsRightStep}
use Rattle.process.specs.declared.process.Process.{Process}
use Rattle.law_process.specs.Accounts.{Act, Doing, DoesSo, step_kind_of, made}
use Rattle.law_process.specs.Handing.{Past, GoesFromNewest, MayDo, run_with}
use Rattle.law_process.specs.EachCall.{step_of, IsReportLine}
use Rattle.law_process.proofs.CallKinds.{on_step_kind, Kind, steps, begins, hands, returns, kind_of}
use Rattle.law_process.proofs.Orders.{AreInOrder, order_next, first_order, old_within}
use Rattle.law_process.proofs.Holding.{AreCurrent, first_current}
use Rattle.law_process.proofs.Resting.{current_still}
use Rattle.law_process.proofs.Letting.{is_allowed}
use Rattle.law_process.proofs.Stepping.{IsStepNow, current_next}
use Rattle.report_line.specs.histories.StepReports.{report_of}
use Rattle.law_process.specs.Obeying.{line_given}
use Rattle.law_process.proofs.Telling.{tells, AreMarked, first_marked, marked_more, marked_silent, marked_left, marked_now}

-- ---- a step more

current_same : (run : Run) (s : Step) → current (Made (epoch run) s ∷ run) ≡ s ∷ current run
unfolding current
current_same run s = grind arith

pub current_made : (run : Run) (e : ℕ) (s : Step) → e ≡ epoch run → current (Made e s ∷ run) ≡ s ∷ current run
current_made run e s now = subst (λ (k : ℕ). current (Made k s ∷ run) ≡ s ∷ current run) (sym now) (current_same run s)

pub current_left : (run : Run) (e : ℕ) (s : Step) → e < epoch run → current (Made e s ∷ run) ≡ current run
unfolding current
current_left run e s old = grind arith

pub epoch_made : (run : Run) (e : ℕ) (s : Step) → epoch (Made e s ∷ run) ≡ epoch run
unfolding epoch
epoch_made run e s = refl

-- ---- all that holds

pub record Holds (root : Name) (run : Run) (past : Past) : Type 0 where
  pub lawful : IsLawful root (current run)
  pub order : AreInOrder root past (epoch run)
  pub holding : AreCurrent root past (current run) (epoch run)
  pub marked : AreMarked root run past

pub holds_as : (root : Name) (run : Run) (past : Past) (h : History) (e : ℕ) → current run ≡ h → epoch run ≡ e → IsLawful root h → AreInOrder root past e
    → AreCurrent root past h e → AreMarked root run past → Holds root run past
holds_as root run past h e is_history is_epoch lawful order holding marked = record {
  lawful = subst (IsLawful root) (sym is_history) lawful;
  order = subst (AreInOrder root past) (sym is_epoch) order;
  holding = subst (λ (g : History). AreCurrent root past g (epoch run)) (sym is_history) (subst (AreCurrent root past h) (sym is_epoch) holding);
  marked = marked;
}

pub first_history : current [] ≡ []
unfolding current
first_history = refl

pub first_epoch : epoch [] ≡ 0
unfolding epoch
first_epoch = refl

pub first_holds : (root : Name) → Holds root [] []
first_holds root = holds_as root [] [] [] 0 first_history first_epoch start (first_order root) (first_current root) (first_marked root [])

-- ---- one call

-- the step of a call is right
abbrev pub IsRight : Name → Run → Option StepKind → Doing → Type 0
IsRight root run None d = ⊤
IsRight root run (Some step_kind) d = IsRightStep root run d.old.epoch (step_of d.old step_kind d.new)

own_step : (root : Name) (run : Run) (past : Past) (a : Act) (old new : Process) (step_kind : StepKind) → step_kind_of (length past) a ≡ Some step_kind → Kind root run past a old new
    → (new.name ≡ old.name) × GoesFromNewest root past old
own_step root run past a old new step_kind is (steps other as_step_kind name epoch from) = (name, from)
own_step root run past a old new step_kind is (begins n s act new_is gave none) = absurd (none-some step_kind (sym (ap (step_kind_of (length past)) act) ∙ is))
own_step root run past a old new step_kind is (hands n sent again act same does from was) = absurd (none-some step_kind (sym (ap (step_kind_of (length past)) act) ∙ is))
own_step root run past a old new step_kind is (returns now act does once within at) = absurd (none-some step_kind (sym (ap (step_kind_of (length past)) act) ∙ is))

module _ (root : Name) (run : Run) (past : Past) (a : Act) (old new : Process) (w : Holds root run past) (does : DoesSo a old new) (may : MayDo root run past a old) where
  kind : Kind root run past a old new
  kind = kind_of root run past a old new does may

  pub own_within : (step_kind : StepKind) → step_kind_of (length past) a ≡ Some step_kind → old.epoch ≤ epoch run
  own_within step_kind is = old_within root run past w.order old (own_step root run past a old new step_kind is kind).1

  pub step_now : (step_kind : StepKind) → step_kind_of (length past) a ≡ Some step_kind → old.epoch ≡ epoch run → IsStepNow root run past a old new step_kind
  step_now step_kind is now =
      let own = own_step root run past a old new step_kind is kind in
      let living = w.holding.lives old.name old own.1 now in
      record {
        is_step_kind = is;
        now = now;
        from = own.1;
        living = living;
        allowed =
            on_step_kind (step_kind_of (length past) a) step_kind (λ c. IsAllowed root (current run) living.event (step_of old c new) c) is
            (is_allowed root run past w.lawful w.holding a old new living.event does may now living.stamp);
      }

  order : AreInOrder root (made a old new ∷ past) (epoch run)
  order = order_next root run past w.order a old new does may kind

  -- no step
  none_on : step_kind_of (length past) a ≡ None → Holds root run (made a old new ∷ past)
  none_on is = record {
    lawful = w.lawful;
    order = order;
    holding = current_still root run past a old new w.lawful w.holding does kind (λ step_kind other. absurd (none-some step_kind (sym is ∙ other)));
    marked = marked_more root run run past (made a old new) w.marked (λ mark r was. was) (marked_silent root run (length past) a is);
  }

  -- a step of a process that has not returned
  left_on : (step_kind : StepKind) → step_kind_of (length past) a ≡ Some step_kind → old.epoch < epoch run → Holds root (Made old.epoch (step_of old step_kind new) ∷ run) (made a old new ∷ past)
  left_on step_kind is less =
      let s = step_of old step_kind new in
      holds_as root (Made old.epoch s ∷ run) (made a old new ∷ past) (current run) (epoch run) (current_left run old.epoch s less) (epoch_made run old.epoch s) w.lawful order
      (current_still root run past a old new w.lawful w.holding does kind (λ other also. less))
      (marked_more root run (Made old.epoch s ∷ run) past (made a old new) w.marked (λ mark r was. earlier was) (marked_left root run a old new step_kind does less))

  -- a step of a process that has returned
  next_on : (step_kind : StepKind) → step_kind_of (length past) a ≡ Some step_kind → old.epoch ≡ epoch run → Holds root (Made old.epoch (step_of old step_kind new) ∷ run) (made a old new ∷ past)
  next_on step_kind is now =
      let s = step_of old step_kind new in
      let own = own_step root run past a old new step_kind is kind in
      let step = step_now step_kind is now in
      holds_as root (Made old.epoch s ∷ run) (made a old new ∷ past) (s ∷ current run) (epoch run) (current_made run old.epoch s now) (epoch_made run old.epoch s)
      (next w.lawful step.living.lives step.allowed) order
      (current_next root run past a old new step_kind w.order w.holding does may own.0 step)
      (marked_more root run (Made old.epoch s ∷ run) past (made a old new) w.marked (λ mark r was. earlier was)
      (marked_now root run a old new step_kind now
      (on_step_kind (step_kind_of (length past) a) step_kind (λ c. IsReportLine old.epoch (report_of root (current run) (step_of old c new)) (line_given a)) is
      (tells root (current run) (length past) a old new does step.living))))

  right_now : (step_kind : StepKind) → step_kind_of (length past) a ≡ Some step_kind → old.epoch ≡ epoch run → IsRightStep root run old.epoch (step_of old step_kind new)
  right_now step_kind is now =
      let step = step_now step_kind is now in
      inl (
        now,
        (
          step.living.event,
          living_is_newest w.lawful old.name step.living.event step.living.lives,
          law_obeys root (current run) step.living.event (step_of old step_kind new) w.lawful step_kind step.allowed,
        ),
      )

  some_on : (step_kind : StepKind) → step_kind_of (length past) a ≡ Some step_kind
      → IsRight root run (Some step_kind) (made a old new) × Holds root (Made old.epoch (step_of old step_kind new) ∷ run) (made a old new ∷ past)
  some_on step_kind is =
      elim (cases_lt old.epoch (epoch run)) [
        | inl less ↦ (inr less, left_on step_kind is less)
        | inr least ↦
            (let within : old.epoch ≤ epoch run = own_within step_kind is in
            let now : old.epoch ≡ epoch run = omega arith in
            (right_now step_kind is now, next_on step_kind is now))
      ]

  pub call_on : (o : Option StepKind) → step_kind_of (length past) a ≡ o → IsRight root run o (made a old new) × Holds root (run_with o (made a old new) run) (made a old new ∷ past)
  call_on None is = (tt, none_on is)
  call_on (Some step_kind) is = some_on step_kind is
