-- How processes stand behind a step that is allowed, and how many reports they made.
use Rattle.std.proofs.Common.{◌≡◌, ◌≢◌, ℕ, suc, ◌+◌, Bool, true, false, Some, None, [], ◌∷◌, refl, sym, ◌∙◌, ap, subst, arith}
use Rattle.std.specs.Prelude.{Contains, ◌&&◌}
use Rattle.std.specs.Str.{bytes_eq}
use Rattle.std.proofs.lemmas.Bool.{cond-true, cond-false, cases_Bool}
use Rattle.id_tree.specs.IdTree.{IdTree}
use Rattle.law_lines.proofs.Listed.{first_in, later_in}
use Rattle.law_histories.proofs.Bytes.{bytes_same, bytes_other}
use Rattle.law_histories.proofs.Status.{status_acts, status_others}
use Rattle.law_histories.proofs.Steps.{fork_of}
use Rattle.law_histories.proofs.Rules.{retired_not_living}
use Rattle.law_histories.proofs.Reported.{others_step, unborn_reports}
use Rattle.report_line.specs.declared.step.StepKind.{StepKind}
use Rattle.report_line.specs.declared.step.StepKind.TheVariants.{Work, Check, Present, Send, Receive, Fork, Retire, Absorb}
use Rattle.report_line.specs.declared.step.Step.{Step}
use Rattle.report_line.specs.histories.History.{Name, History, Event, event_of, birth_by, Status, Unborn, Living, Retired, Absorbed, status_of_actor, status_of_other, status, sends, sending}
use Rattle.report_line.specs.histories.Lawful.{IsAllowed, IsLawful, start, next}
use Rattle.report_line.specs.histories.StepReports.{is_reported, reporting_steps}
use Rattle.process.specs.declared.process.Process.{Process}
use Rattle.process.specs.Steps.{GoesOn}
use Rattle.law_process.specs.Handing.{stamp_of}
use Rattle.law_process.specs.EachCall.{LivesAs, step_of}

-- ---- how a process stands

others_stay : (h : History) (s : Step) (p : Name) (a : StepKind) (before : Status) → ((i : IdTree) → a ≢ Fork p i) → a ≢ Absorb p → status_of_other h s a p before ≡ before
others_stay h s p Work before forks absorbs = refl
others_stay h s p Check before forks absorbs = refl
others_stay h s p Present before forks absorbs = refl
others_stay h s p (Send m) before forks absorbs = refl
others_stay h s p (Receive m) before forks absorbs = refl
others_stay h s p (Retire q) before forks absorbs = refl
others_stay h s p (Fork c i) before forks absorbs = cond-false (bytes_eq p c) _ _ (bytes_other p c (λ same. forks i (ap (λ (n : Name). Fork n i) (sym same))))
others_stay h s p (Absorb r) before forks absorbs = cond-false (bytes_eq p r) _ _ (bytes_other p r (λ same. absorbs (ap Absorb (sym same))))

-- who does not act, is not born and is not absorbed stands as before
stays : (root : Name) (h : History) (s : Step) (p : Name) → p ≢ s.process → ((i : IdTree) → s.step_kind ≢ Fork p i) → s.step_kind ≢ Absorb p
    → status root (s ∷ h) p ≡ status root h p
stays root h s p differs forks absorbs = status_others root h s p differs ∙ others_stay h s p s.step_kind (status root h p) forks absorbs

retired_not_unborn : (x : Event) (q : Name) → Retired x q ≢ Unborn
retired_not_unborn x q is = cc

retired_not_absorbed : (x : Event) (q : Name) → Retired x q ≢ Absorbed
retired_not_absorbed x q is = cc

unborn_not_living : (x : Event) → Unborn ≢ Living x
unborn_not_living x is = cc

unborn_not_absorbed : Unborn ≢ Absorbed
unborn_not_absorbed is = cc

pub absorbed_not_living : (x : Event) → Absorbed ≢ Living x
absorbed_not_living x is = cc

module _ (root : Name) (h : History) (b : Event) (s : Step) (living : status root h s.process ≡ Living b) (allowed : IsAllowed root h b s s.step_kind) where
  forks_unborn : (p : Name) (i : IdTree) → s.step_kind ≡ Fork p i → status root h p ≡ Unborn
  forks_unborn p i is = (fork_of root h b s p i allowed is).new_name

  absorbs_retired : (p : Name) → s.step_kind ≡ Absorb p → (x : Event) × (status root h p ≡ Retired x s.process)
  absorbs_retired p is = (let w = subst (λ (a : StepKind). IsAllowed root h b s a) is allowed in (w.retirement, w.into_this))

  pub living_stays : (p : Name) (x : Event) → p ≢ s.process → status root h p ≡ Living x → status root (s ∷ h) p ≡ Living x
  living_stays p x differs there =
      stays root h s p differs (λ i is. unborn_not_living x (sym (forks_unborn p i is) ∙ there))
      (λ is. let w = absorbs_retired p is in retired_not_living w.0 x s.process (sym w.1 ∙ there))
      ∙ there

  unborn_stays : (p : Name) → ((i : IdTree) → s.step_kind ≢ Fork p i) → status root h p ≡ Unborn → status root (s ∷ h) p ≡ Unborn
  unborn_stays p forks there =
      stays root h s p (λ same. unborn_not_living b (sym there ∙ (ap (status root h) same ∙ living))) forks
      (λ is. let w = absorbs_retired p is in retired_not_unborn w.0 s.process (sym w.1 ∙ there))
      ∙ there

  retired_not_actor : (p q : Name) (x : Event) → status root h p ≡ Retired x q → p ≢ s.process
  retired_not_actor p q x there same = retired_not_living x b q (sym there ∙ (ap (status root h) same ∙ living))

  pub retired_stays : (p q : Name) (x : Event) → s.step_kind ≢ Absorb p → status root h p ≡ Retired x q → status root (s ∷ h) p ≡ Retired x q
  retired_stays p q x absorbs there =
      stays root h s p (retired_not_actor p q x there) (λ i is. retired_not_unborn x q (sym there ∙ forks_unborn p i is)) absorbs ∙ there

  pub retired_ends : (p q : Name) (x : Event) → s.step_kind ≡ Absorb p → status root h p ≡ Retired x q → status root (s ∷ h) p ≡ Absorbed
  retired_ends p q x absorbs there =
      status_others root h s p (retired_not_actor p q x there)
      ∙ (ap (λ (a : StepKind). status_of_other h s a p (status root h p)) absorbs ∙ cond-true (bytes_eq p p) _ _ (bytes_same p p refl))

  pub absorbed_stays : (p : Name) → status root h p ≡ Absorbed → status root (s ∷ h) p ≡ Absorbed
  absorbed_stays p there =
      stays root h s p (λ same. absorbed_not_living b (sym there ∙ (ap (status root h) same ∙ living)))
      (λ i is. unborn_not_absorbed (sym (forks_unborn p i is) ∙ there))
      (λ is. let w = absorbs_retired p is in retired_not_absorbed w.0 s.process (sym w.1 ∙ there))
      ∙ there

first_unborn : (root p : Name) → p ≢ root → status root [] p ≡ Unborn
unfolding status
first_unborn root p differs = cond-false (bytes_eq p root) _ _ (bytes_other p root differs)

-- who is not the root and is forked by no step is not born
pub unforked_is_unborn : {root : Name} {h : History} → IsLawful root h → (p : Name) → p ≢ root → ((s : Step) (i : IdTree) → Contains h s → s.step_kind ≢ Fork p i) → status root h p ≡ Unborn
unforked_is_unborn {root} start p differs forks = first_unborn root p differs
unforked_is_unborn {root} (next {h = h} {s = s} {before = b} lawful living allowed) p differs forks =
    unborn_stays root h b s living allowed p (λ i. forks s i (first_in s h)) (unforked_is_unborn lawful p differs (λ t i at. forks t i (later_in s t h at)))

-- ---- a process that lives

-- it lives on where another one acts
pub lives_on : (root : Name) (h : History) (b : Event) (s : Step) (p : Process) → status root h s.process ≡ Living b → IsAllowed root h b s s.step_kind → p.name ≢ s.process
    → LivesAs root h p → LivesAs root (s ∷ h) p
lives_on root h b s p living allowed differs w = record {
  event = w.event;
  lives = living_stays root h b s living allowed p.name w.event differs w.lives;
  stamp = w.stamp;
  reports = w.reports ∙ sym (others_step p.name s h differs);
}

both_true : (a b : Bool) → a ≡ true → b ≡ true → (a && b) ≡ true
both_true a b e f = grind (arith, cases_Bool)

right_false : (a b : Bool) → b ≡ false → (a && b) ≡ false
right_false a b e = grind (arith, cases_Bool)

pub counted : (h : History) (s : Step) → is_reported s.step_kind ≡ true → reporting_steps s.process (s ∷ h) ≡ reporting_steps s.process h + 1
counted h s is =
    let up : reporting_steps s.process h + 1 ≡ suc (reporting_steps s.process h) = omega arith in
    cond-true (bytes_eq s.process s.process && is_reported s.step_kind) (suc (reporting_steps s.process h)) (reporting_steps s.process h)
    (both_true (bytes_eq s.process s.process) (is_reported s.step_kind) (bytes_same s.process s.process refl) is)
    ∙ sym up

pub uncounted : (h : History) (s : Step) → is_reported s.step_kind ≡ false → reporting_steps s.process (s ∷ h) ≡ reporting_steps s.process h + 0
uncounted h s is =
    let up : reporting_steps s.process h + 0 ≡ reporting_steps s.process h = omega arith in
    cond-false (bytes_eq s.process s.process && is_reported s.step_kind) (suc (reporting_steps s.process h)) (reporting_steps s.process h)
    (right_false (bytes_eq s.process s.process) (is_reported s.step_kind) is)
    ∙ sym up

-- it lives by its own step
pub lives_by : (root : Name) (h : History) (old new : Process) (step_kind : StepKind) (k : ℕ) → ((x : Event) → status_of_actor step_kind x ≡ Living x)
    → reporting_steps old.name (step_of old step_kind new ∷ h) ≡ reporting_steps old.name h + k → GoesOn old new k → LivesAs root h old
    → LivesAs root (step_of old step_kind new ∷ h) new
lives_by root h old new step_kind k actor count goes w =
    let s = step_of old step_kind new in
    let name : old.name ≡ new.name = sym goes.name in
    record {
      event = event_of h s;
      lives = status_acts root h s new.name goes.name ∙ actor (event_of h s);
      stamp = refl;
      reports =
          goes.reports ∙ (ap (λ (n : ℕ). n + k) w.reports ∙ (sym count ∙ ap (λ (p : Name). reporting_steps p (s ∷ h)) name));
    }

-- the child of a fork lives by its birth
pub child_lives : (root : Name) (h : History) (b : Event) (s : Step) (c : Process) (i : IdTree) → status root h s.process ≡ Living b → IsAllowed root h b s s.step_kind → s.step_kind ≡ Fork c.name i
    → stamp_of (birth_by h s c.name i) ≡ c.stamp → c.reports ≡ 0 → LivesAs root (s ∷ h) c
child_lives root h b s c i living allowed is stamp none =
    let unborn = (fork_of root h b s c.name i allowed is).new_name in
    let differs : c.name ≢ s.process = λ same. unborn_not_living b (sym unborn ∙ (ap (status root h) same ∙ living)) in
    record {
      event = birth_by h s c.name i;
      lives =
          status_others root h s c.name differs
          ∙ (ap (λ (a : StepKind). status_of_other h s a c.name (status root h c.name)) is ∙ cond-true (bytes_eq c.name c.name) _ _ (bytes_same c.name c.name refl));
      stamp = stamp;
      reports = none ∙ sym (others_step c.name s h differs ∙ unborn_reports root h c.name unborn);
    }

-- who retires stands retired
pub retires_by : (root : Name) (h : History) (s : Step) (p q : Name) → p ≡ s.process → s.step_kind ≡ Retire q → status root (s ∷ h) p ≡ Retired (event_of h s) q
retires_by root h s p q same is = status_acts root h s p same ∙ ap (λ (a : StepKind). status_of_actor a (event_of h s)) is

-- ---- a message

pub sending_now : (h : History) (s : Step) (m : Name) → sends s.step_kind m ≡ true → sending (s ∷ h) m ≡ Some (event_of h s)
unfolding sending
sending_now h s m is = cond-true (sends s.step_kind m) (Some (event_of h s)) (sending h m) is

pub sends_now : (h : History) (s : Step) (m : Name) → s.step_kind ≡ Send m → sending (s ∷ h) m ≡ Some (event_of h s)
sends_now h s m is = sending_now h s m (ap (λ (a : StepKind). sends a m) is ∙ bytes_same m m refl)

pub sending_before : (h : History) (s : Step) (m : Name) → sends s.step_kind m ≡ false → sending (s ∷ h) m ≡ sending h m
unfolding sending
sending_before h s m is = cond-false (sends s.step_kind m) (Some (event_of h s)) (sending h m) is

sends_other : (a : StepKind) (m : Name) → a ≢ Send m → sends a m ≡ false
sends_other Work m differs = refl
sends_other Check m differs = refl
sends_other Present m differs = refl
sends_other (Send k) m differs = bytes_other k m (λ same. differs (ap Send same))
sends_other (Receive k) m differs = refl
sends_other (Fork c i) m differs = refl
sends_other (Retire q) m differs = refl
sends_other (Absorb r) m differs = refl

pub sent_stays : (h : History) (s : Step) (m : Name) → s.step_kind ≢ Send m → sending (s ∷ h) m ≡ sending h m
sent_stays h s m differs = sending_before h s m (sends_other s.step_kind m differs)

-- who sends in a step that is allowed sends what nobody sent
pub unsent : (h : History) (m : Name) → ((s : Step) → Contains h s → s.step_kind ≢ Send m) → sending h m ≡ None
unfolding sending
unsent [] m none = refl
unsent (s ∷ h) m none = cond-false (sends s.step_kind m) (Some (event_of h s)) (sending h m) (sends_other s.step_kind m (none s (first_in s h))) ∙ unsent h m (λ t at. none t (later_in s t h at))
