-- The step of a call is allowed, where its process has returned.
use Rattle.std.proofs.Common.{◌≡◌, ◌≢◌, ℕ, ◌<◌, [], ◌∷◌, length, inl, inr, sym, ◌∙◌, ap, subst, arith}
use Rattle.std.specs.Prelude.{Contains}
use Rattle.id_tree.specs.IdTree.{IdTree}
use Rattle.id_tree.specs.Points.{owns}
use Rattle.id_tree.specs.Split.{IsSplit}
use Rattle.event_tree.specs.EventTree.{EventTree}
use Rattle.event_tree.specs.Grown.{IsGrown}
use Rattle.event_tree.specs.Join.{IsJoin}
use Rattle.stamp.specs.declared.stamp.Stamp.{Stamp}
use Rattle.stamp.specs.Operations.{IsReceive, IsAbsorb}
use Rattle.law_histories.proofs.Rules.{retired_waits}
use Rattle.report_line.specs.declared.step.StepKind.{StepKind}
use Rattle.report_line.specs.declared.step.StepKind.TheVariants as step_kinds
use Rattle.report_line.specs.declared.step.Step.{Step}
use Rattle.report_line.specs.histories.History.{Name, History, Event, Unborn, Retired, status}
use Rattle.report_line.specs.histories.Lawful.{IsSameId, IsOwnWork, IsLawfulReceive, IsLawfulFork, IsLawfulAbsorption, IsAllowed, IsLawful}
use Rattle.law_lines.specs.Runs.{Run, epoch, current}
use Rattle.process.specs.declared.process.Process.{Process}
use Rattle.process.specs.declared.handed.Message.{Message}
use Rattle.process.specs.declared.handed.Start.{Start}
use Rattle.process.specs.declared.handed.Retirement.{Retirement}
use Rattle.process.specs.Steps.{Counts}
use Rattle.law_process.specs.Accounts.{Act, Work, Send, Again, Receive, Check, Present, Fork, Begin, Retire, Absorb, Return, DoesSo, step_kind_of}
use Rattle.law_process.specs.Handing.{Past, stamp_of, MayAbsorb, MayDo}
use Rattle.law_process.specs.EachCall.{step_of, IsSent, Waits, IsFrom}
use Rattle.law_process.proofs.Calls.{GaveRetirement, new_is_unnamed}
use Rattle.law_process.proofs.CallKinds.{OnStepKind, first_byte}
use Rattle.law_process.proofs.Standing.{unforked_is_unborn, unsent}
use Rattle.law_process.proofs.Holding.{AreCurrent}

same_ids : (i j : IdTree) → i ≡ j → IsSameId i j
same_ids i j same t = ap (λ (k : IdTree). owns k t) same

own_work : (x : Event) (old new : Process) (step_kind : StepKind) → stamp_of x ≡ old.stamp → Counts old.stamp new.stamp → IsOwnWork x x.values (step_of old step_kind new)
own_work x old new step_kind same counts =
    let w = subst (λ (t : Stamp). Counts t new.stamp) (sym same) counts in
    record { same_id = same_ids new.stamp.id x.id w.event.id; grown = w.grown }

receives : (h : History) (x : Event) (old new : Process) (n : ℕ) (m : Message) → stamp_of x ≡ old.stamp → IsSent h n m → IsReceive old.stamp m.events new.stamp
    → IsLawfulReceive h x (step_of old (step_kinds.Receive (n ∷ [])) new) (n ∷ [])
receives h x old new n m same sent stamped =
    let w = subst (λ (t : Stamp). IsReceive t m.events new.stamp) (sym same) stamped in
    record {
      sent = sent.0;
      is_sent = sent.1;
      joined = w.joined;
      is_join = subst (λ (v : EventTree). IsJoin x.values v w.joined) (sym sent.2) w.is_join.join;
      own = record { same_id = same_ids new.stamp.id x.id w.id; grown = w.grown };
    }

forks : (root : Name) (h : History) (x : Event) (old new : Process) (s : Start) → stamp_of x ≡ old.stamp → IsGrown old.stamp.id old.stamp.events new.stamp.events
    → IsSplit old.stamp.id new.stamp.id s.stamp.id → s.child ≢ root → status root h s.child ≡ Unborn
    → IsLawfulFork root h x (step_of old (step_kinds.Fork s.child s.stamp.id) new) s.child s.stamp.id
forks root h x old new s same grown split differs unborn =
    let parts = subst (λ (t : Stamp). IsSplit t.id new.stamp.id s.stamp.id) (sym same) split in
    record {
      grown = subst (λ (t : Stamp). IsGrown t.id t.events new.stamp.events) (sym same) grown;
      new_name = unborn;
      not_root = differs;
      disjoint = parts.disjoint;
      not_empty = parts.left;
      child_not_empty = parts.right;
      together = parts.together;
    }

absorbs : (root : Name) (h : History) (x : Event) (old new : Process) (r : Retirement) → stamp_of x ≡ old.stamp → r.target ≡ old.name → Waits root h r → IsAbsorb old.stamp r.stamp new.stamp
    → IsLawfulAbsorption root h x (step_of old (step_kinds.Absorb r.process) new) r.process
absorbs root h x old new r same into_this waits stamped =
    let w = subst (λ (t : Stamp). IsAbsorb (stamp_of x) t new.stamp) (sym waits.2) (subst (λ (t : Stamp). IsAbsorb t r.stamp new.stamp) (sym same) stamped) in
    record {
      retirement = waits.0;
      into_this = waits.1 ∙ ap (λ (q : Name). Retired waits.0 q) into_this;
      between = w.after;
      grown = w.grown;
      joined = w.join;
      disjoint = w.disjoint;
      together = w.together;
    }

-- the step is allowed, over any history that has what the call takes and names
pub allowed : (root : Name) (h : History) (n : ℕ) (a : Act) (old new : Process) (x : Event) → DoesSo a old new → stamp_of x ≡ old.stamp → IsFrom root h n a old
    → OnStepKind (step_kind_of n a) (λ step_kind. IsAllowed root h x (step_of old step_kind new) step_kind)
allowed root h n Work old new x does same from = own_work x old new step_kinds.Work same does.stamped
allowed root h n (Send m) old new x does same from = (own_work x old new (step_kinds.Send (n ∷ [])) same does.works.stamped, from)
allowed root h n (Again k sent m) old new x does same from = tt
allowed root h n (Receive k m) old new x does same from = receives h x old new k m same from does.stamped
allowed root h n (Check line) old new x does same from = own_work x old new step_kinds.Check same does.stamped
allowed root h n (Present line) old new x does same from = own_work x old new step_kinds.Present same does.stamped
allowed root h n (Fork s line) old new x does same from = forks root h x old new s same does.grown does.split from.0 from.1
allowed root h n (Begin k s) old new x does same from = tt
allowed root h n (Retire target r line) old new x does same from = (
  own_work x old new (step_kinds.Retire target) same (subst (λ (t : Stamp). Counts old.stamp t) (sym (ap (λ (p : Process). p.stamp) does.1)) does.0.stamped),
  does.0.other,
)
allowed root h n (Absorb k r line) old new x does same from = absorbs root h x old new r same does.into_this from does.stamped
allowed root h n (Return epoch) old new x does same from = tt

module _ (root : Name) (run : Run) (past : Past) (lawful : IsLawful root (current run)) (holds : AreCurrent root past (current run) (epoch run)) where
  unsent_yet : (s : Step) → Contains (current run) s → s.step_kind ≢ step_kinds.Send (length past ∷ [])
  unsent_yet s at is =
      let w = holds.numbered s (length past ∷ []) at is in
      let lt : w.0 < length past = w.2 in
      let same : length past ≡ w.0 = first_byte (length past) w.0 w.1 in
      omega arith

  waits_for : (old : Process) (from : ℕ) (r : Retirement) → old.epoch ≡ epoch run → r.target ≡ old.name → GaveRetirement past from r → MayAbsorb root run past old from r
      → Waits root (current run) r
  waits_for old from r now into_this gave (inl w) =
      elim (holds.retired from r gave (w.0 ∙ now)) [
        | inl v ↦ v
        | inr v ↦ absurd (v.1 w.1)
      ]
  waits_for old from r now into_this gave (inr keeps) =
      let k = keeps now in
      (k.event, retired_waits lawful r.process r.target k.event k.waits.occurs k.waits.of_process k.waits.retires k.waits.not_absorbed, k.stamp)

  -- what the call takes and names is so in the current history
  is_from : (a : Act) (old new : Process) → DoesSo a old new → MayDo root run past a old → old.epoch ≡ epoch run → IsFrom root (current run) (length past) a old
  is_from Work old new does may now = tt
  is_from (Send m) old new does may now = unsent (current run) (length past ∷ []) unsent_yet
  is_from (Again from sent m) old new does may now = tt
  is_from (Receive from m) old new does may now =
      elim may.1 [
        | inl gave ↦ holds.sent from m gave (does.epoch ∙ now)
        | inr other ↦ elim other [ inl gave ↦ holds.again from m gave (does.epoch ∙ now) | inr keeps ↦ keeps now ]
      ]
  is_from (Check line) old new does may now = tt
  is_from (Present line) old new does may now = tt
  is_from (Fork s line) old new does may now =
      (may.1.0, unforked_is_unborn lawful s.child may.1.0 (λ t i at is. new_is_unnamed root past s.child may.1 (inr (holds.forked t s.child i at is))))
  is_from (Begin from s) old new does may now = tt
  is_from (Retire target r line) old new does may now = tt
  is_from (Absorb from r line) old new does may now = waits_for old from r now does.into_this may.1 may.2
  is_from (Return epoch) old new does may now = tt

  pub is_allowed : (a : Act) (old new : Process) (x : Event) → DoesSo a old new → MayDo root run past a old → old.epoch ≡ epoch run → stamp_of x ≡ old.stamp
      → OnStepKind (step_kind_of (length past) a) (λ step_kind. IsAllowed root (current run) x (step_of old step_kind new) step_kind)
  is_allowed a old new x does may now same = allowed root (current run) (length past) a old new x does same (is_from a old new does may now)
