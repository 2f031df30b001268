-- A step of a process that has returned, and is allowed.
use Rattle.std.proofs.Common.{◌≡◌, ◌≢◌, ◌⊎◌, ℕ, ◌<◌, Some, List, [], ◌∷◌, length, inl, inr, refl, sym, ◌∙◌, ap, subst, arith}
use Rattle.id_tree.specs.IdTree.{IdTree}
use Rattle.event_tree.specs.EventTree.{EventTree}
use Rattle.law_lines.proofs.Listed.{first_in, in_cases}
use Rattle.law_histories.proofs.Bytes.{cases_name}
use Rattle.law_histories.proofs.Rules.{retired_not_living}
use Rattle.report_line.specs.declared.step.StepKind.{StepKind}
use Rattle.report_line.specs.declared.step.StepKind.TheVariants as step_kinds
use Rattle.report_line.specs.declared.step.Step.{Step}
use Rattle.report_line.specs.histories.History.{Name, History, Event, Living, event_of, sending, status}
use Rattle.report_line.specs.histories.Lawful.{IsAllowed}
use Rattle.law_lines.specs.Runs.{Run, epoch, current}
use Rattle.process.specs.declared.process.Process.{Process}
use Rattle.process.specs.declared.handed.Message.{Message}
use Rattle.process.specs.declared.handed.Start.{Start}
use Rattle.process.specs.declared.handed.Retirement.{Retirement}
use Rattle.law_process.specs.Accounts.{Act, Work, Send, Again, Receive, Check, Present, Fork, Begin, Retire, Absorb, Return, DoesSo, begun_by, step_kind_of, made}
use Rattle.law_process.specs.Handing.{Past, goes_on, GoesFromNewest, IsUnbegun, IsUnabsorbed, MayAbsorb, MayDo}
use Rattle.law_process.specs.EachCall.{LivesAs, step_of, IsSent, IsGiven}
use Rattle.law_process.proofs.Calls.{call_within, GaveMessage, GaveAgain, GaveStart, GaveRetirement, message_cases, again_cases, start_cases, retirement_cases, unbegun_before, unabsorbed_before, forked_later, goes_on_is, newest_cases, newest_is, call_in}
use Rattle.law_process.proofs.CallKinds.{first_byte, same_step_kind, OnStepKind, on_step_kind, sent_name, forked_child, absorbed_of}
use Rattle.law_process.proofs.Orders.{AreInOrder}
use Rattle.law_process.proofs.Standing.{absorbed_not_living, lives_on, counted, uncounted, lives_by, child_lives, retires_by, retired_stays, retired_ends, absorbed_stays, sends_now, sent_stays}
use Rattle.law_process.proofs.Holding.{HasRetired, AreCurrent, message_of, start_of, retirement_of}
use Rattle.stamp.specs.declared.stamp.Stamp.{Stamp}
use Rattle.std.proofs.lemmas.Option.{none-some}

sent_twice : (root : Name) (h : History) (x : Event) (s : Step) (step_kind : StepKind) (m : Name) (y : Event) → IsAllowed root h x s step_kind → step_kind ≡ step_kinds.Send m
    → sending h m ≡ Some y → ⊥
sent_twice root h x s step_kind m y allowed is sent =
    let w : IsAllowed root h x s (step_kinds.Send m) = subst (IsAllowed root h x s) is allowed in
    none-some y (sym w.1 ∙ sent)

-- what is known of it
pub record IsStepNow (root : Name) (run : Run) (past : Past) (a : Act) (old new : Process) (step_kind : StepKind) : Type 0 where
  pub is_step_kind : step_kind_of (length past) a ≡ Some step_kind
  pub now : old.epoch ≡ epoch run
  pub from : GoesFromNewest root past old
  pub living : LivesAs root (current run) old
  pub allowed : IsAllowed root (current run) living.event (step_of old step_kind new) step_kind

-- who acts lives by its step, unless it retires
pub lives_next : (root : Name) (h : History) (n : ℕ) (a : Act) (old new s : Process) → DoesSo a old new → LivesAs root h old → goes_on a new ≡ Some s
    → OnStepKind (step_kind_of n a) (λ step_kind. LivesAs root (step_of old step_kind new ∷ h) new)
lives_next root h n Work old new s does w on = lives_by root h old new step_kinds.Work 0 (λ x. refl) (uncounted h (step_of old step_kinds.Work new) refl) does.goes w
lives_next root h n (Send m) old new s does w on =
    lives_by root h old new (step_kinds.Send (n ∷ [])) 0 (λ x. refl) (uncounted h (step_of old (step_kinds.Send (n ∷ [])) new) refl) does.works.goes w
lives_next root h n (Again from sent m) old new s does w on = tt
lives_next root h n (Receive from m) old new s does w on =
    lives_by root h old new (step_kinds.Receive (from ∷ [])) 0 (λ x. refl) (uncounted h (step_of old (step_kinds.Receive (from ∷ [])) new) refl) does.goes w
lives_next root h n (Check line) old new s does w on = lives_by root h old new step_kinds.Check 1 (λ x. refl) (counted h (step_of old step_kinds.Check new) refl) does.goes w
lives_next root h n (Present line) old new s does w on = lives_by root h old new step_kinds.Present 1 (λ x. refl) (counted h (step_of old step_kinds.Present new) refl) does.goes w
lives_next root h n (Fork t line) old new s does w on =
    lives_by root h old new (step_kinds.Fork t.child t.stamp.id) 1 (λ x. refl) (counted h (step_of old (step_kinds.Fork t.child t.stamp.id) new) refl) does.goes w
lives_next root h n (Begin from t) old new s does w on = tt
lives_next root h n (Retire target r line) old new s does w on = absurd (none-some s on)
lives_next root h n (Absorb from r line) old new s does w on =
    lives_by root h old new (step_kinds.Absorb r.process) 1 (λ x. refl) (counted h (step_of old (step_kinds.Absorb r.process) new) refl) does.goes w
lives_next root h n (Return epoch) old new s does w on = tt

abbrev stamp_of_both : IdTree → EventTree → Stamp
stamp_of_both i e = record { id = i; events = e }

-- what it gives out is of the history then
pub gives_now : (root : Name) (h : History) (n : ℕ) (a : Act) (old new : Process) (x : Event) → DoesSo a old new → status root h old.name ≡ Living x
    → OnStepKind (step_kind_of n a) (λ step_kind. IsAllowed root h x (step_of old step_kind new) step_kind) → OnStepKind (step_kind_of n a) (λ step_kind. IsGiven root (step_of old step_kind new ∷ h) n a)
gives_now root h n Work old new x does living ok = tt
gives_now root h n (Send m) old new x does living ok =
    let s = step_of old (step_kinds.Send (n ∷ [])) new in
    (event_of h s, sends_now h s (n ∷ []) refl, sym does.events)
gives_now root h n (Again from sent m) old new x does living ok = tt
gives_now root h n (Receive from m) old new x does living ok = tt
gives_now root h n (Check line) old new x does living ok = tt
gives_now root h n (Present line) old new x does living ok = tt
gives_now root h n (Fork t line) old new x does living ok =
    child_lives root h x (step_of old (step_kinds.Fork t.child t.stamp.id) new) (begun_by t) t.stamp.id living ok refl (ap (stamp_of_both t.stamp.id) (sym does.same)) refl
gives_now root h n (Begin from t) old new x does living ok = tt
gives_now root h n (Retire target r line) old new x does living ok =
    let s = step_of old (step_kinds.Retire target) new in (
      event_of h s,
      retires_by root h s r.process r.target does.0.process (ap (λ (q : Name). step_kinds.Retire q) (sym does.0.target_is)),
      ap (λ (p : Process). p.stamp) does.1,
    )
gives_now root h n (Absorb from r line) old new x does living ok = tt
gives_now root h n (Return epoch) old new x does living ok = tt

absorbed_name : (r p : Name) → step_kinds.Absorb r ≡ step_kinds.Absorb p → r ≡ p
absorbed_name r p is = cc

cases_absorbs : (a : StepKind) (p : Name) → (a ≡ step_kinds.Absorb p) ⊎ (a ≢ step_kinds.Absorb p)
cases_absorbs step_kinds.Work p = inr (λ is. cc)
cases_absorbs step_kinds.Check p = inr (λ is. cc)
cases_absorbs step_kinds.Present p = inr (λ is. cc)
cases_absorbs (step_kinds.Send m) p = inr (λ is. cc)
cases_absorbs (step_kinds.Receive m) p = inr (λ is. cc)
cases_absorbs (step_kinds.Fork c i) p = inr (λ is. cc)
cases_absorbs (step_kinds.Retire q) p = inr (λ is. cc)
cases_absorbs (step_kinds.Absorb r) p = elim (cases_name r p) [ inl same ↦ inl (ap (λ (q : Name). step_kinds.Absorb q) same) | inr differs ↦ inr (λ is. differs (absorbed_name r p is)) ]

abbrev stamp_with : IdTree → EventTree → Stamp
stamp_with i e = record { id = i; events = e }

module _ (root : Name) (run : Run) (past : Past) (a : Act) (old new : Process) (step_kind : StepKind) (order : AreInOrder root past (epoch run))
    (holds : AreCurrent root past (current run) (epoch run)) (does : DoesSo a old new) (may : MayDo root run past a old) (name : new.name ≡ old.name)
    (w : IsStepNow root run past a old new step_kind) where
  -- an older call's process that stands retired: so it does, unless it is absorbed now
  retired_next : (n : ℕ) (r : Retirement) → GaveRetirement past n r → r.epoch ≡ epoch run
      → HasRetired root (step_of old step_kind new ∷ current run) (made a old new ∷ past) n r
  retired_next n r gave now =
      let h = current run in
      let s = step_of old step_kind new in
      elim (holds.retired n r gave now) [
        | inr ended ↦ inr (
          absorbed_stays root h w.living.event s w.living.lives w.allowed r.process ended.0,
          λ none. ended.1 (unabsorbed_before past (made a old new) n none),
        )
        | inl waits ↦ elim (cases_absorbs step_kind r.process) [
          | inr other ↦ inl (waits.0, retired_stays root h w.living.event s w.living.lives w.allowed r.process r.target waits.0 other waits.1, waits.2)
          | inl is ↦ inr (
            retired_ends root h w.living.event s w.living.lives w.allowed r.process r.target waits.0 is waits.1,
            absorbed_by n r gave now (absorbed_of (length past) a r.process (w.is_step_kind ∙ ap (λ (c : StepKind). Some c) is)),
          )
        ]
      ]
    where
      -- the call that absorbs it now was given the retirement of that call
      absorbed_by : (n : ℕ) (r : Retirement) → GaveRetirement past n r → r.epoch ≡ epoch run
          → (from : ℕ) × (q : Retirement) × (line : List ℕ) × (a ≡ Absorb from q line) × (q.process ≡ r.process) → ¬ IsUnabsorbed (made a old new ∷ past) n
      absorbed_by n r gave now (from, q, line, is, same) none = by may_absorb.2
        where
          may_absorb : MayDo root run past (Absorb from q line) old
          may_absorb = subst (λ (b : Act). MayDo root run past b old) is may

          by : MayAbsorb root run past old from q → ⊥
          by (inl v) =
              (let place : from ≡ n = holds.once from n q r may_absorb.1 gave (v.0 ∙ w.now) now same in
              none (made a old new) q line (first_in (made a old new) past) (is ∙ ap (λ (k : ℕ). Absorb k q line) place))
          by (inr keeps) = (keeps w.now).not_anew gave.0 gave.1 r gave.2 (call_in past n gave.0 gave.3) gave.4 (sym same) now

  -- who retires now did not retire before in this epoch
  not_again : (n : ℕ) (r : Retirement) → GaveRetirement past n r → r.epoch ≡ epoch run → r.process ≢ old.name
  not_again n r gave now same =
      elim (holds.retired n r gave now) [
        | inl waits ↦ retired_not_living waits.0 w.living.event r.target (sym waits.1 ∙ (ap (status root (current run)) same ∙ w.living.lives))
        | inr ended ↦ absorbed_not_living w.living.event (sym ended.0 ∙ (ap (status root (current run)) same ∙ w.living.lives))
      ]

  child_starts : (s : Start) (line : List ℕ) → a ≡ Fork s line → LivesAs root (step_of old step_kind new ∷ current run) (begun_by s)
  child_starts s line is =
      let g = start_of (length past) a s line old new does is in
      let same : step_kind ≡ step_kinds.Fork s.child s.stamp.id = same_step_kind step_kind (step_kinds.Fork s.child s.stamp.id) (sym w.is_step_kind ∙ g.step_kind) in
      child_lives root (current run) w.living.event (step_of old step_kind new) (begun_by s) s.stamp.id w.living.lives w.allowed same
      (ap (stamp_with s.stamp.id) (sym g.events)) refl

  pub current_next : AreCurrent root (made a old new ∷ past) (step_of old step_kind new ∷ current run) (epoch run)
  current_next = record {
    lives = λ p s is now.
        elim (newest_cases root past (made a old new) p s is) [
          | inl v ↦
              subst (λ (q : Process). LivesAs root (step_of old step_kind new ∷ current run) q) (sym (goes_on_is a new s v.1))
              (on_step_kind (step_kind_of (length past) a) step_kind (λ c. LivesAs root (step_of old c new ∷ current run) new) w.is_step_kind
              (lives_next root (current run) (length past) a old new s does w.living v.1))
          | inr v ↦
              lives_on root (current run) w.living.event (step_of old step_kind new) s w.living.lives w.allowed
              (λ same. v.0 (sym (newest_is root past p s v.1).0 ∙ (same ∙ sym name))) (holds.lives p s v.1 now)
        ];
    forked = λ s c i at is.
        elim (in_cases (step_of old step_kind new) s (current run) at) [
          | inl same ↦
              (let v = forked_child (length past) a c i (w.is_step_kind ∙ ap (λ (x : StepKind). Some x) (ap (λ (t : Step). t.step_kind) same ∙ is)) in
              (made a old new, v.0, v.1, first_in (made a old new) past, v.2, v.3))
          | inr before ↦ forked_later past (made a old new) c (holds.forked s c i before is)
        ];
    numbered = λ s m at is.
        elim (in_cases (step_of old step_kind new) s (current run) at) [
          | inl same ↦
              (length past, sent_name (length past) a m (w.is_step_kind ∙ ap (λ (x : StepKind). Some x) (ap (λ (t : Step). t.step_kind) same ∙ is)), omega arith)
          | inr before ↦ (let v = holds.numbered s m before is in let lt : v.0 < length past = v.2 in (v.0, v.1, omega arith))
        ];
    sent = λ n m gave now.
        elim (message_cases past (made a old new) n m gave) [
          | inl v ↦ sent_now n m v.0 v.1
          | inr before ↦ sent_before n m before now
        ];
    again = λ n m gave now.
        elim (again_cases past (made a old new) n m gave) [
          | inl v ↦ absurd (none-some step_kind (sym (ap (step_kind_of (length past)) v.1) ∙ w.is_step_kind))
          | inr before ↦ again_before n m before now
        ];
    started = λ n s gave now none.
        elim (start_cases past (made a old new) n s gave) [
          | inl v ↦ child_starts s v.0 v.1
          | inr before ↦
              lives_on root (current run) w.living.event (step_of old step_kind new) (begun_by s) w.living.lives w.allowed (not_begun_yet n s before none)
              (holds.started n s before now (unbegun_before past (made a old new) n none))
        ];
    retired = λ n r gave now.
        elim (retirement_cases past (made a old new) n r gave) [
          | inl v ↦
              (let g = retirement_of (length past) a v.0 r v.1 old new does v.2 in
              inl (
                event_of (current run) (step_of old step_kind new),
                retires_by root (current run) (step_of old step_kind new) r.process r.target g.process (same_step_kind step_kind (step_kinds.Retire r.target) (sym w.is_step_kind ∙ g.step_kind)),
                g.stamp,
              ))
          | inr before ↦ retired_next n r before now
        ];
    once = λ n m r q gave_r gave_q now also equal.
        elim (retirement_cases past (made a old new) n r gave_r) [
          | inl v ↦ elim (retirement_cases past (made a old new) m q gave_q) [
            | inl u ↦ sym v.3 ∙ u.3
            | inr before ↦ absurd (not_again m q before also (sym equal ∙ (retirement_of (length past) a v.0 r v.1 old new does v.2).process))
          ]
          | inr before ↦ elim (retirement_cases past (made a old new) m q gave_q) [
            | inl u ↦ absurd (not_again n r before now (equal ∙ (retirement_of (length past) a u.0 q u.1 old new does u.2).process))
            | inr earlier ↦ holds.once n m r q before earlier now also equal
          ]
        ];
  }
    where
      sent_now : (n : ℕ) (m : Message) → a ≡ Send m → length past ≡ n → IsSent (step_of old step_kind new ∷ current run) n m
      sent_now n m is place =
          let g = message_of (length past) a m old new does is in
          let same : step_kind ≡ step_kinds.Send (length past ∷ []) = same_step_kind step_kind (step_kinds.Send (length past ∷ [])) (sym w.is_step_kind ∙ g.0) in (
            event_of (current run) (step_of old step_kind new),
            sends_now (current run) (step_of old step_kind new) (n ∷ []) (same ∙ ap (λ (k : ℕ). step_kinds.Send (k ∷ [])) place),
            sym g.2,
          )

      sent_before : (n : ℕ) (m : Message) → GaveMessage past n m → m.epoch ≡ epoch run → IsSent (step_of old step_kind new ∷ current run) n m
      sent_before n m gave now =
          let v = holds.sent n m gave now in
          let lt : n < length past = call_within past n gave.0 gave.1 in (
            v.0,
            sent_stays (current run) (step_of old step_kind new) (n ∷ [])
                (λ is. let same : n ≡ length past = first_byte n (length past) (sent_name (length past) a (n ∷ []) (w.is_step_kind ∙ ap (λ (x : StepKind). Some x) is)) in omega arith)
                ∙ v.1,
            v.2,
          )

      -- what was handed over once more stays sent as it was: no step sends a message of that name again
      again_before : (n : ℕ) (m : Message) → GaveAgain past n m → m.epoch ≡ epoch run → IsSent (step_of old step_kind new ∷ current run) n m
      again_before n m gave now =
          let v = holds.again n m gave now in (
            v.0,
            sent_stays (current run) (step_of old step_kind new) (n ∷ []) (λ is. sent_twice root (current run) w.living.event (step_of old step_kind new) step_kind (n ∷ []) v.0 w.allowed is v.1)
                ∙ v.1,
            v.2,
          )

      not_begun_yet : (n : ℕ) (s : Start) → GaveStart past n s → IsUnbegun (made a old new ∷ past) n → s.child ≢ old.name
      not_begun_yet n s gave none same =
          order.unbegun n s gave (unbegun_before past (made a old new) n none) old (newest_is root past old.name old w.from).1 (sym same)
