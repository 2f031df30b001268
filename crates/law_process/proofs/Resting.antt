-- A call that changes nothing of the current history: it makes no step, or its process has not returned.
use Rattle.std.proofs.Common.{◌≡◌, ℕ, ◌<◌, Some, List, [], ◌∷◌, length, inl, inr, sym, ◌∙◌, ap, subst, arith}
use Rattle.std.proofs.lemmas.Option.{none-some}
use Rattle.law_histories.proofs.Rules.{newest_lives}
use Rattle.report_line.specs.declared.step.StepKind.{StepKind}
use Rattle.report_line.specs.declared.step.StepKind.TheVariants as step_kinds
use Rattle.report_line.specs.histories.History.{Name}
use Rattle.report_line.specs.histories.Lawful.{IsLawful}
use Rattle.law_lines.specs.Runs.{Run, epoch, current}
use Rattle.process.specs.declared.process.Process.{Process}
use Rattle.process.specs.declared.handed.Message.{Message}
use Rattle.process.specs.declared.handed.Start.{Start}
use Rattle.process.specs.declared.handed.Retirement.{Retirement}
use Rattle.law_process.specs.Accounts.{Act, Again, Begin, Retire, Return, DoesSo, step_kind_of, made}
use Rattle.law_process.specs.Handing.{Past, IsAtPosition}
use Rattle.law_process.specs.EachCall.{LivesAs, IsSent}
use Rattle.law_process.proofs.Calls.{message_cases, again_cases, start_cases, retirement_cases, unbegun_before, unabsorbed_before, forked_later, goes_on_is, newest_cases}
use Rattle.law_process.proofs.CallKinds.{Kind, steps, begins, hands, returns}
use Rattle.law_process.proofs.Holding.{AreCurrent, message_of, start_of, retirement_of}

at_position : (root : Name) (run : Run) (old new : Process) (now : ℕ) → IsLawful root (current run) → new ≡ record { name = old.name; epoch = now; reports = old.reports; stamp = old.stamp }
    → IsAtPosition root run old → LivesAs root (current run) new
at_position root run old new now lawful new_is at =
    subst (λ (p : Process). LivesAs root (current run) p) (sym new_is) (record {
      event = at.event;
      lives = newest_lives lawful old.name at.event at.newest_event;
      stamp = at.stamp;
      reports = at.reports;
    })

again_no_begin : (n : ℕ) (sent m : Message) (k : ℕ) (s : Start) → Again n sent m ≡ Begin k s → ⊥
again_no_begin n sent m k s is = cc

again_no_return : (n : ℕ) (sent m : Message) (k : ℕ) → Again n sent m ≡ Return k → ⊥
again_no_return n sent m k is = cc

same_again : (k n : ℕ) (q sent r m : Message) → Again k q r ≡ Again n sent m → (k ≡ n) × (q ≡ sent) × (r ≡ m)
same_again k n q sent r m is = (cc, cc, cc)

module _ (root : Name) (run : Run) (past : Past) (a : Act) (old new : Process) (lawful : IsLawful root (current run))
    (holds : AreCurrent root past (current run) (epoch run)) (does : DoesSo a old new) (kind : Kind root run past a old new)
    (rests : (step_kind : StepKind) → step_kind_of (length past) a ≡ Some step_kind → old.epoch < epoch run) where
  still_lives : Kind root run past a old new → new.epoch ≡ epoch run → LivesAs root (current run) new
  still_lives (steps step_kind is name same from) now = (let less : old.epoch < epoch run = rests step_kind is in absurd (omega arith))
  still_lives (begins n s is new_is gave none) now =
      subst (λ (p : Process). LivesAs root (current run) p) (sym new_is)
      (holds.started n s gave (sym (ap (λ (p : Process). p.epoch) new_is) ∙ now) none)
  still_lives (hands n sent again is same does_so from was) now =
      subst (λ (p : Process). LivesAs root (current run) p) (sym same) (holds.lives old.name old from (sym (ap (λ (p : Process). p.epoch) same) ∙ now))
  still_lives (returns now_at is does_so once within at) now =
      at_position root run old new now_at lawful does_so.new_is (at (sym (ap (λ (p : Process). p.epoch) does_so.new_is) ∙ now))

  not_now : (step_kind : StepKind) (k : ℕ) → step_kind_of (length past) a ≡ Some step_kind → k ≡ old.epoch → k ≡ epoch run → ⊥
  not_now step_kind k is same now = (let less : old.epoch < epoch run = rests step_kind is in omega arith)

  -- what it hands over once more now was sent in the current history
  handed_now : Kind root run past a old new → (n : ℕ) (sent m : Message) → a ≡ Again n sent m → m.epoch ≡ epoch run → IsSent (current run) n m
  handed_now (steps step_kind is name same from) n sent m act now = absurd (none-some step_kind (sym (ap (step_kind_of (length past)) act) ∙ is))
  handed_now (begins k s is new_is gave none) n sent m act now = absurd (again_no_begin n sent m k s (sym act ∙ is))
  handed_now (returns k is does_so once within at) n sent m act now = absurd (again_no_return n sent m k (sym act ∙ is))
  handed_now (hands k q r is same does_so from was) n sent m act now =
      let equal = same_again k n q sent r m (sym is ∙ act) in
      let sent_is = was (sym does_so.epoch ∙ (ap (λ (x : Message). x.epoch) equal.2 ∙ now)) in
      subst (λ (i : ℕ). IsSent (current run) i m) equal.0 (sent_is.0, sent_is.1, sent_is.2 ∙ (sym does_so.events ∙ ap (λ (x : Message). x.events) equal.2))

  pub current_still : AreCurrent root (made a old new ∷ past) (current run) (epoch run)
  current_still = record {
    lives = λ p s is now.
        elim (newest_cases root past (made a old new) p s is) [
          | inl w ↦
              (let same : s ≡ new = goes_on_is a new s w.1 in
              subst (λ (q : Process). LivesAs root (current run) q) (sym same) (still_lives kind (ap (λ (q : Process). q.epoch) (sym same) ∙ now)))
          | inr w ↦ holds.lives p s w.1 now
        ];
    forked = λ s c i at is. forked_later past (made a old new) c (holds.forked s c i at is);
    numbered = λ s m at is. (let w = holds.numbered s m at is in let lt : w.0 < length past = w.2 in (w.0, w.1, omega arith));
    sent = λ n m gave now.
        elim (message_cases past (made a old new) n m gave) [
          | inl w ↦ (let g = message_of (length past) a m old new does w.0 in absurd (not_now (step_kinds.Send (length past ∷ [])) m.epoch g.0 g.1 now))
          | inr before ↦ holds.sent n m before now
        ];
    again = λ n m gave now.
        elim (again_cases past (made a old new) n m gave) [
          | inl w ↦ handed_now kind n w.0 m w.1 now
          | inr before ↦ holds.again n m before now
        ];
    started = λ n s gave now none.
        elim (start_cases past (made a old new) n s gave) [
          | inl w ↦ (let g = start_of (length past) a s w.0 old new does w.1 in absurd (not_now (step_kinds.Fork s.child s.stamp.id) s.epoch g.step_kind g.epoch now))
          | inr before ↦ holds.started n s before now (unbegun_before past (made a old new) n none)
        ];
    retired = λ n r gave now.
        elim (retirement_cases past (made a old new) n r gave) [
          | inl w ↦ absurd (not_retired w.0 r w.1 w.2 now)
          | inr before ↦ elim (holds.retired n r before now) [
            | inl waits ↦ inl waits
            | inr ended ↦ inr (ended.0, λ none. ended.1 (unabsorbed_before past (made a old new) n none))
          ]
        ];
    once = λ n m r q gave_r gave_q now also equal.
        elim (retirement_cases past (made a old new) n r gave_r) [
          | inl w ↦ absurd (not_retired w.0 r w.1 w.2 now)
          | inr before ↦ elim (retirement_cases past (made a old new) m q gave_q) [
            | inl v ↦ absurd (not_retired v.0 q v.1 v.2 also)
            | inr earlier ↦ holds.once n m r q before earlier now also equal
          ]
        ];
  }
    where
      not_retired : (target : Name) (r : Retirement) (line : List ℕ) → a ≡ Retire target r line → r.epoch ≡ epoch run → ⊥
      not_retired target r line is now = (let g = retirement_of (length past) a target r line old new does is in not_now (step_kinds.Retire r.target) r.epoch g.step_kind g.epoch now)
