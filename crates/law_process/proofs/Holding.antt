-- What holds of the current history: how the processes of the present epoch stand in it, and what they gave.
use Rattle.std.proofs.Common.{◌≡◌, ◌⊎◌, ℕ, suc, ◌≤◌, ◌<◌, Some, List, [], ◌∷◌, length, inl, inr, refl, sym, ◌∙◌, ap, subst, arith}
use Rattle.std.specs.Prelude.{Contains}
use Rattle.std.proofs.lemmas.Bool.{cases_Bool, cond-true, cond-false}
use Rattle.id_tree.specs.IdTree.{IdTree}
use Rattle.law_lines.proofs.Listed.{first_in, later_in, in_cases, none_in}
use Rattle.law_histories.proofs.Status.{root_holds}
use Rattle.report_line.specs.declared.step.StepKind.TheVariants as step_kinds
use Rattle.report_line.specs.declared.step.Step.{Step}
use Rattle.report_line.specs.histories.History.{Name, History, Event, event_of, birth_of_root, Retired, Absorbed, status}
use Rattle.law_histories.specs.Kept.{Cut, kept}
use Rattle.process.specs.declared.process.Process.{Process}
use Rattle.process.specs.declared.handed.Message.{Message}
use Rattle.process.specs.declared.handed.Start.{Start}
use Rattle.process.specs.declared.handed.Retirement.{Retirement}
use Rattle.law_process.specs.Accounts.{Act, Send, Fork, Retire, Doing, DoesSo, begun_by, step_kind_of}
use Rattle.law_process.specs.Handing.{Past, first, newest, IsCall, IsUnbegun, IsUnabsorbed, stamp_of}
use Rattle.law_process.specs.EachCall.{LivesAs, IsSent}
use Rattle.law_process.proofs.Calls.{call_within, GaveMessage, GaveAgain, GaveStart, GaveRetirement, IsForked, first_is, newest_is}
use Rattle.law_process.proofs.Orders.{AreInOrder, message_within, again_within, start_within, retirement_within}

-- Who left it stands retired by it; or it was absorbed, and then some call did so.
abbrev pub HasRetired : Name → History → Past → ℕ → Retirement → Type 0
HasRetired root h past n r =
    ((x : Event) × (status root h r.process ≡ Retired x r.target) × (stamp_of x ≡ r.stamp)) ⊎ ((status root h r.process ≡ Absorbed) × (¬ IsUnabsorbed past n))

pub record AreCurrent (root : Name) (past : Past) (h : History) (e : ℕ) : Type 0 where
  pub lives : (p : Name) (s : Process) → newest root past p ≡ Some s → s.epoch ≡ e → LivesAs root h s
  pub forked : (s : Step) (c : Name) (i : IdTree) → Contains h s → s.step_kind ≡ step_kinds.Fork c i → IsForked past c
  pub numbered : (s : Step) (m : Name) → Contains h s → s.step_kind ≡ step_kinds.Send m → (k : ℕ) × (m ≡ k ∷ []) × (k < length past)
  pub sent : (n : ℕ) (m : Message) → GaveMessage past n m → m.epoch ≡ e → IsSent h n m
  pub again : (n : ℕ) (m : Message) → GaveAgain past n m → m.epoch ≡ e → IsSent h n m
  pub started : (n : ℕ) (s : Start) → GaveStart past n s → s.epoch ≡ e → IsUnbegun past n → LivesAs root h (begun_by s)
  pub retired : (n : ℕ) (r : Retirement) → GaveRetirement past n r → r.epoch ≡ e → HasRetired root h past n r
  pub once : (n m : ℕ) (r q : Retirement) → GaveRetirement past n r → GaveRetirement past m q → r.epoch ≡ e → q.epoch ≡ e → r.process ≡ q.process → n ≡ m

-- ---- at first

first_lives : (root : Name) → LivesAs root [] (first root)
first_lives root = record { event = birth_of_root root; lives = root_holds root; stamp = refl; reports = refl }

nothing_called : (n : ℕ) (d : Doing) → IsCall [] n d → ⊥
nothing_called n d call = (let lt = call_within [] n d call in omega arith)

pub first_current : (root : Name) → AreCurrent root [] [] 0
first_current root = record {
  lives = λ p s is same. subst (λ (q : Process). LivesAs root [] q) (sym (first_is root p s is).1) (first_lives root);
  forked = λ s c i at is. absurd (none_in s at);
  numbered = λ s m at is. absurd (none_in s at);
  sent = λ n m gave same. absurd (nothing_called n gave.0 gave.1);
  again = λ n m gave same. absurd (none_in gave.0 gave.2);
  started = λ n s gave same none. absurd (nothing_called n gave.0 gave.2);
  retired = λ n r gave same. absurd (nothing_called n gave.0 gave.3);
  once = λ n m r q gave_r gave_q same also equal. absurd (nothing_called n gave_r.0 gave_r.3);
}

-- ---- a settlement: the history loses steps, and nothing is of the new epoch

kept_in : (cut : Cut) (h : History) (s : Step) → Contains (kept cut h) s → Contains h s
unfolding kept
kept_in cut [] s at = at
kept_in cut (t ∷ h) s at =
    elim (cases_Bool (cut (event_of h t))) [
      | inl is ↦
          elim (in_cases t s (kept cut h) (subst (λ (l : History). Contains l s) (cond-true (cut (event_of h t)) (t ∷ kept cut h) (kept cut h) is) at)) [
            | inl same ↦ subst (Contains (t ∷ h)) same (first_in t h)
            | inr before ↦ later_in t s h (kept_in cut h s before)
          ]
      | inr is ↦ later_in t s h (kept_in cut h s (subst (λ (l : History). Contains l s) (cond-false (cut (event_of h t)) (t ∷ kept cut h) (kept cut h) is) at))
    ]

none_newer : (n e : ℕ) → n ≤ e → n ≡ suc e → ⊥
none_newer n e le is = omega arith

pub current_settled : (root : Name) (past : Past) (h : History) (e : ℕ) (cut : Cut) → AreInOrder root past e → AreCurrent root past h e → AreCurrent root past (kept cut h) (suc e)
current_settled root past h e cut order holds = record {
  lives = λ p s is same. absurd (none_newer s.epoch e (order.known s (newest_is root past p s is).1) same);
  forked = λ s c i at is. holds.forked s c i (kept_in cut h s at) is;
  numbered = λ s m at is. holds.numbered s m (kept_in cut h s at) is;
  sent = λ n m gave same. absurd (none_newer m.epoch e (message_within root past e order n m gave) same);
  again = λ n m gave same. absurd (none_newer m.epoch e (again_within root past e order n m gave) same);
  started = λ n s gave same none. absurd (none_newer s.epoch e (start_within root past e order n s gave) same);
  retired = λ n r gave same. absurd (none_newer r.epoch e (retirement_within root past e order n r gave) same);
  once = λ n m r q gave_r gave_q same also equal. absurd (none_newer r.epoch e (retirement_within root past e order n r gave_r) same);
}

-- ---- what a call gives out is of the epoch of its process, and has a kind of step

pub message_of : (n : ℕ) (a : Act) (m : Message) (old new : Process) → DoesSo a old new → a ≡ Send m → (step_kind_of n a ≡ Some (step_kinds.Send (n ∷ []))) × (m.epoch ≡ old.epoch) × (m.events ≡ new.stamp.events)
message_of n a m old new does is =
    let w : DoesSo (Send m) old new = subst (λ (b : Act). DoesSo b old new) is does in
    (ap (step_kind_of n) is, w.epoch, w.events)

pub record GivesStart (n : ℕ) (a : Act) (s : Start) (old new : Process) : Type 0 where
  pub step_kind : step_kind_of n a ≡ Some (step_kinds.Fork s.child s.stamp.id)
  pub epoch : s.epoch ≡ old.epoch
  pub events : s.stamp.events ≡ new.stamp.events

pub start_of : (n : ℕ) (a : Act) (s : Start) (line : List ℕ) (old new : Process) → DoesSo a old new → a ≡ Fork s line → GivesStart n a s old new
start_of n a s line old new does is =
    let w : DoesSo (Fork s line) old new = subst (λ (b : Act). DoesSo b old new) is does in
    record { step_kind = ap (step_kind_of n) is; epoch = w.epoch; events = w.same }

pub record GivesRetirement (n : ℕ) (a : Act) (r : Retirement) (old new : Process) : Type 0 where
  pub step_kind : step_kind_of n a ≡ Some (step_kinds.Retire r.target)
  pub epoch : r.epoch ≡ old.epoch
  pub process : r.process ≡ old.name
  pub stamp : new.stamp ≡ r.stamp

pub retirement_of : (n : ℕ) (a : Act) (target : Name) (r : Retirement) (line : List ℕ) (old new : Process) → DoesSo a old new → a ≡ Retire target r line → GivesRetirement n a r old new
retirement_of n a target r line old new does is =
    let w : DoesSo (Retire target r line) old new = subst (λ (b : Act). DoesSo b old new) is does in
    record {
      step_kind = ap (step_kind_of n) is ∙ ap (λ (q : Name). Some (step_kinds.Retire q)) (sym w.0.target_is);
      epoch = w.0.epoch;
      process = w.0.process;
      stamp = ap (λ (p : Process). p.stamp) w.1;
    }
