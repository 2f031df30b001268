-- What holds of the calls so far, whatever the current history is.
use Rattle.std.proofs.Common.{◌≡◌, ◌≢◌, ℕ, ◌≤◌, List, [], ◌∷◌, inl, inr, sym, ◌∙◌, ap, subst, arith}
use Rattle.std.specs.Prelude.{Contains, ⊤}
use Rattle.law_lines.proofs.Listed.{first_in, in_cases, none_in}
use Rattle.report_line.specs.histories.History.{Name}
use Rattle.law_lines.specs.Runs.{Run, epoch}
use Rattle.process.specs.declared.process.Process.{Process}
use Rattle.process.specs.declared.handed.Message.{Message}
use Rattle.process.specs.declared.handed.Start.{Start}
use Rattle.process.specs.declared.handed.Retirement.{Retirement}
use Rattle.law_process.specs.Accounts.{Act, Work, Send, Again, Receive, Check, Present, Fork, Begin, Retire, Absorb, Return, Doing, DoesSo, made}
use Rattle.law_process.specs.Handing.{Past, first, GoesFromNewest, WasOnce, IsNewName, IsUnbegun, MayDo}
use Rattle.law_process.proofs.Calls.{call_in, call_within, GaveMessage, GaveAgain, GaveStart, GaveRetirement, start_cases, unbegun_before, IsForked, IsNamed, named_later, start_named, new_is_unnamed, once_cases, newest_is}
use Rattle.law_process.proofs.CallKinds.{Kind, steps, begins, hands, returns}

-- what a call gave out is of no later epoch
abbrev pub GivenWithin : ℕ → Act → Type 0
GivenWithin e (Send message) = message.epoch ≤ e
GivenWithin e (Again from message again) = again.epoch ≤ e
GivenWithin e (Fork start line) = start.epoch ≤ e
GivenWithin e (Retire target retirement line) = retirement.epoch ≤ e
GivenWithin e act = ⊤

pub record AreInOrder (root : Name) (past : Past) (e : ℕ) : Type 0 where
  pub known : (p : Process) → WasOnce root past p → p.epoch ≤ e
  pub named : (p : Process) → WasOnce root past p → IsNamed root past p.name
  pub given : (d : Doing) → Contains past d → GivenWithin e d.act
  pub different : (n m : ℕ) (s t : Start) → GaveStart past n s → GaveStart past m t → s.child ≡ t.child → n ≡ m
  pub unbegun : (n : ℕ) (s : Start) → GaveStart past n s → IsUnbegun past n → (p : Process) → WasOnce root past p → p.name ≢ s.child

-- what was given is of no later epoch
pub message_within : (root : Name) (past : Past) (e : ℕ) → AreInOrder root past e → (n : ℕ) (m : Message) → GaveMessage past n m → m.epoch ≤ e
message_within root past e order n m gave = subst (GivenWithin e) gave.2 (order.given gave.0 (call_in past n gave.0 gave.1))

pub again_within : (root : Name) (past : Past) (e : ℕ) → AreInOrder root past e → (n : ℕ) (m : Message) → GaveAgain past n m → m.epoch ≤ e
again_within root past e order n m gave = subst (GivenWithin e) gave.3 (order.given gave.0 gave.2)

pub start_within : (root : Name) (past : Past) (e : ℕ) → AreInOrder root past e → (n : ℕ) (s : Start) → GaveStart past n s → s.epoch ≤ e
start_within root past e order n s gave = subst (GivenWithin e) gave.3 (order.given gave.0 (call_in past n gave.0 gave.2))

pub retirement_within : (root : Name) (past : Past) (e : ℕ) → AreInOrder root past e → (n : ℕ) (r : Retirement) → GaveRetirement past n r → r.epoch ≤ e
retirement_within root past e order n r gave = subst (GivenWithin e) gave.4 (order.given gave.0 (call_in past n gave.0 gave.3))

-- ---- one call more

module _ (root : Name) (run : Run) (past : Past) (order : AreInOrder root past (epoch run)) where
  pub old_within : (old : Process) → GoesFromNewest root past old → old.epoch ≤ epoch run
  old_within old from = order.known old (newest_is root past old.name old from).1

  new_within : (a : Act) (old new : Process) → Kind root run past a old new → new.epoch ≤ epoch run
  new_within a old new (steps step_kind is name same from) = (let within : old.epoch ≤ epoch run = old_within old from in omega arith)
  new_within a old new (begins n s is new_is gave none) =
      (let within : s.epoch ≤ epoch run = start_within root past (epoch run) order n s gave in
      let same : new.epoch ≡ s.epoch = ap (λ (p : Process). p.epoch) new_is in
      omega arith)
  new_within a old new (hands n sent again is same does from was) =
      (let within : old.epoch ≤ epoch run = old_within old from in let equal : new.epoch ≡ old.epoch = ap (λ (p : Process). p.epoch) same in omega arith)
  new_within a old new (returns now is does once within at) = (let same : new.epoch ≡ now = ap (λ (p : Process). p.epoch) does.new_is in omega arith)

  new_named : (a : Act) (old new : Process) → Kind root run past a old new → IsNamed root past new.name
  new_named a old new (steps step_kind is name same from) = subst (IsNamed root past) (sym name) (order.named old (newest_is root past old.name old from).1)
  new_named a old new (begins n s is new_is gave none) = subst (IsNamed root past) (sym (ap (λ (p : Process). p.name) new_is)) (inr (start_named past n s gave))
  new_named a old new (hands n sent again is same does from was) =
      subst (IsNamed root past) (sym (ap (λ (p : Process). p.name) same)) (order.named old (newest_is root past old.name old from).1)
  new_named a old new (returns now is does once within at) = subst (IsNamed root past) (sym (ap (λ (p : Process). p.name) does.new_is)) (order.named old once)

  given_next : (a : Act) (old new : Process) → DoesSo a old new → MayDo root run past a old → GivenWithin (epoch run) a
  given_next Work old new does may = tt
  given_next (Send m) old new does may = (let within : old.epoch ≤ epoch run = old_within old may in let same : m.epoch ≡ old.epoch = does.epoch in omega arith)
  given_next (Again n sent m) old new does may =
      (let within : old.epoch ≤ epoch run = old_within old may.0 in let same : m.epoch ≡ old.epoch = does.0.epoch in omega arith)
  given_next (Receive n m) old new does may = tt
  given_next (Check line) old new does may = tt
  given_next (Present line) old new does may = tt
  given_next (Fork s line) old new does may = (let within : old.epoch ≤ epoch run = old_within old may.0 in let same : s.epoch ≡ old.epoch = does.epoch in omega arith)
  given_next (Begin n s) old new does may = tt
  given_next (Retire target r line) old new does may =
      (let within : old.epoch ≤ epoch run = old_within old may in let same : r.epoch ≡ old.epoch = does.0.epoch in omega arith)
  given_next (Absorb n r line) old new does may = tt
  given_next (Return now) old new does may = tt

  pub child_is_new : (a : Act) (old : Process) (s : Start) (line : List ℕ) → MayDo root run past a old → a ≡ Fork s line → IsNewName root past s.child
  child_is_new a old s line may is =
      let w : MayDo root run past (Fork s line) old = subst (λ (b : Act). MayDo root run past b old) is may in
      w.1

  -- who stands for a start that nobody began with has another name
  not_begun : (a : Act) (old new : Process) → Kind root run past a old new → (n : ℕ) (s : Start) → GaveStart past n s → IsUnbegun (made a old new ∷ past) n → new.name ≢ s.child
  not_begun a old new (steps step_kind is name same from) n s gave none is_child =
      order.unbegun n s gave (unbegun_before past (made a old new) n none) old (newest_is root past old.name old from).1 (sym name ∙ is_child)
  not_begun a old new (begins m t is new_is gave_t none_t) n s gave none is_child =
      let place : n ≡ m = order.different n m s t gave gave_t (sym is_child ∙ ap (λ (p : Process). p.name) new_is) in
      none (made a old new) t (first_in (made a old new) past) (is ∙ ap (λ (k : ℕ). Begin k t) (sym place))
  not_begun a old new (hands k sent again is same does from was) n s gave none is_child =
      order.unbegun n s gave (unbegun_before past (made a old new) n none) old (newest_is root past old.name old from).1
      (sym (ap (λ (p : Process). p.name) same) ∙ is_child)
  not_begun a old new (returns now is does once within at) n s gave none is_child =
      order.unbegun n s gave (unbegun_before past (made a old new) n none) old once (sym (ap (λ (p : Process). p.name) does.new_is) ∙ is_child)

  pub order_next : (a : Act) (old new : Process) → DoesSo a old new → MayDo root run past a old → Kind root run past a old new
      → AreInOrder root (made a old new ∷ past) (epoch run)
  order_next a old new does may kind = record {
    known = λ p once.
        elim (once_cases root past (made a old new) p once) [
          | inl is ↦ subst (λ (q : Process). q.epoch ≤ epoch run) (sym is) (new_within a old new kind)
          | inr before ↦ order.known p before
        ];
    named = λ p once. named_later root past (made a old new) p.name (all_named p once);
    given = λ x at.
        elim (in_cases (made a old new) x past at) [
          | inl is ↦ subst (λ (y : Doing). GivenWithin (epoch run) y.act) is (given_next a old new does may)
          | inr before ↦ order.given x before
        ];
    different = λ n m s t gave_s gave_t same.
        elim (start_cases past (made a old new) n s gave_s) [
          | inl w ↦ elim (start_cases past (made a old new) m t gave_t) [
            | inl v ↦ sym w.2 ∙ v.2
            | inr before ↦ absurd (new_is_unnamed root past s.child (child_is_new a old s w.0 may w.1) (inr (subst (IsForked past) (sym same) (start_named past m t before))))
          ]
          | inr before ↦ elim (start_cases past (made a old new) m t gave_t) [
            | inl v ↦ absurd (new_is_unnamed root past t.child (child_is_new a old t v.0 may v.1) (inr (subst (IsForked past) same (start_named past n s before))))
            | inr also ↦ order.different n m s t before also same
          ]
        ];
    unbegun = λ n s gave none p once is_child.
        elim (start_cases past (made a old new) n s gave) [
          | inl w ↦ new_is_unnamed root past s.child (child_is_new a old s w.0 may w.1) (subst (IsNamed root past) is_child (all_named p once))
          | inr before ↦ elim (once_cases root past (made a old new) p once) [
            | inl is ↦ not_begun a old new kind n s before none (sym (ap (λ (q : Process). q.name) is) ∙ is_child)
            | inr was ↦ order.unbegun n s before (unbegun_before past (made a old new) n none) p was is_child
          ]
        ];
  }
    where
      all_named : (p : Process) → WasOnce root (made a old new ∷ past) p → IsNamed root past p.name
      all_named p once =
          elim (once_cases root past (made a old new) p once) [
            | inl is ↦ subst (λ (q : Process). IsNamed root past q.name) (sym is) (new_named a old new kind)
            | inr before ↦ order.named p before
          ]

-- ---- at first, and in later epochs

nothing_given : (n : ℕ) (s : Start) → GaveStart [] n s → ⊥
nothing_given n s gave = (let lt = call_within [] n gave.0 gave.2 in omega arith)

first_only : (root : Name) (p : Process) → WasOnce root [] p → p ≡ first root
first_only root p (inl is) = is
first_only root p (inr w) = absurd (none_in w.0 w.1)

pub first_order : (root : Name) → AreInOrder root [] 0
first_order root = record {
  known = λ p once. (let same : p.epoch ≡ 0 = ap (λ (q : Process). q.epoch) (first_only root p once) in omega arith);
  named = λ p once. inl (ap (λ (q : Process). q.name) (first_only root p once));
  given = λ d at. absurd (none_in d at);
  different = λ n m s t gave_s gave_t same. absurd (nothing_given n s gave_s);
  unbegun = λ n s gave none p once. absurd (nothing_given n s gave);
}

within_more : (e f : ℕ) → e ≤ f → (a : Act) → GivenWithin e a → GivenWithin f a
within_more e f le Work within = tt
within_more e f le (Send m) within = omega arith
within_more e f le (Again n sent m) within = omega arith
within_more e f le (Receive n m) within = tt
within_more e f le (Check line) within = tt
within_more e f le (Present line) within = tt
within_more e f le (Fork s line) within = omega arith
within_more e f le (Begin n s) within = tt
within_more e f le (Retire target r line) within = omega arith
within_more e f le (Absorb n r line) within = tt
within_more e f le (Return now) within = tt

pub order_later : (root : Name) (past : Past) (e f : ℕ) → e ≤ f → AreInOrder root past e → AreInOrder root past f
order_later root past e f le order = record {
  known = λ p once. (let within : p.epoch ≤ e = order.known p once in omega arith);
  named = order.named;
  given = λ d at. within_more e f le d.act (order.given d at);
  different = order.different;
  unbegun = order.unbegun;
}
