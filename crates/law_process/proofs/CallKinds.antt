-- What a call is: a step of a process that goes on from its newest state, a hand-over by it, a beginning, or a return.
use Rattle.std.proofs.Common.{◌≡◌, ℕ, ◌≤◌, Option, Some, None, List, [], ◌∷◌, length, refl, ap, subst}
use Rattle.std.specs.Prelude.{⊤}
use Rattle.id_tree.specs.IdTree.{IdTree}
use Rattle.report_line.specs.declared.step.StepKind.{StepKind}
use Rattle.report_line.specs.declared.step.StepKind.TheVariants as step_kinds
use Rattle.report_line.specs.histories.History.{Name}
use Rattle.law_lines.specs.Runs.{Run, epoch}
use Rattle.process.specs.declared.process.Process.{Process}
use Rattle.process.specs.declared.handed.Message.{Message}
use Rattle.process.specs.declared.handed.Start.{Start}
use Rattle.process.specs.declared.handed.Retirement.{Retirement}
use Rattle.process.specs.Steps.{Returns, HandsOver}
use Rattle.law_process.specs.Accounts.{Act, Work, Send, Again, Receive, Check, Present, Fork, Begin, Retire, Absorb, Return, DoesSo, begun_by, step_kind_of}
use Rattle.law_process.specs.Handing.{Past, GoesFromNewest, WasOnce, IsUnbegun, IsAtPosition, WasSent, MayDo}
use Rattle.law_process.proofs.Calls.{GaveStart}

-- it holds of the kind of step, where there is one
abbrev pub OnStepKind : Option StepKind → (StepKind → Type 0) → Type 0
OnStepKind None P = ⊤
OnStepKind (Some step_kind) P = P step_kind

pub on_step_kind : (o : Option StepKind) (step_kind : StepKind) (P : StepKind → Type 0) → o ≡ Some step_kind → OnStepKind o P → P step_kind
on_step_kind o step_kind P is holds = subst (λ (k : Option StepKind). OnStepKind k P) is holds

pub data Kind (root : Name) (run : Run) (past : Past) (a : Act) (old new : Process) : Type 0 where
  steps : (step_kind : StepKind) → step_kind_of (length past) a ≡ Some step_kind → new.name ≡ old.name → new.epoch ≡ old.epoch → GoesFromNewest root past old
      → Kind root run past a old new
  begins : (from : ℕ) → (s : Start) → a ≡ Begin from s → new ≡ begun_by s → GaveStart past from s → IsUnbegun past from → Kind root run past a old new
  hands : (from : ℕ) → (sent again : Message) → a ≡ Again from sent again → new ≡ old → HandsOver old sent again → GoesFromNewest root past old
      → (old.epoch ≡ epoch run → WasSent run from sent.events) → Kind root run past a old new
  returns : (now : ℕ) → a ≡ Return now → Returns old new now → WasOnce root past old → now ≤ epoch run → (now ≡ epoch run → IsAtPosition root run old)
      → Kind root run past a old new

pub kind_of : (root : Name) (run : Run) (past : Past) (a : Act) (old new : Process) → DoesSo a old new → MayDo root run past a old → Kind root run past a old new
kind_of root run past Work old new does may = steps step_kinds.Work refl does.goes.name does.goes.epoch may
kind_of root run past (Send message) old new does may = steps (step_kinds.Send (length past ∷ [])) refl does.works.goes.name does.works.goes.epoch may
kind_of root run past (Again from sent again) old new does may = hands from sent again refl does.1 does.0 may.0 may.1
kind_of root run past (Receive from message) old new does may = steps (step_kinds.Receive (from ∷ [])) refl does.goes.name does.goes.epoch may.0
kind_of root run past (Check line) old new does may = steps step_kinds.Check refl does.goes.name does.goes.epoch may
kind_of root run past (Present line) old new does may = steps step_kinds.Present refl does.goes.name does.goes.epoch may
kind_of root run past (Fork s line) old new does may = steps (step_kinds.Fork s.child s.stamp.id) refl does.goes.name does.goes.epoch may.0
kind_of root run past (Begin from s) old new does may = begins from s refl does may.0 may.1
kind_of root run past (Retire target r line) old new does may =
    steps (step_kinds.Retire target) refl (ap (λ (p : Process). p.name) does.1) (ap (λ (p : Process). p.epoch) does.1) may
kind_of root run past (Absorb from r line) old new does may = steps (step_kinds.Absorb r.process) refl does.goes.name does.goes.epoch may.0
kind_of root run past (Return now) old new does may = returns now refl does may.0 may.1 may.2

-- ---- which kind of step it is

pub same_step_kind : (c d : StepKind) → Some c ≡ Some d → c ≡ d
same_step_kind c d is = cc

pub first_byte : (n k : ℕ) → n ∷ [] ≡ k ∷ [] → n ≡ k
first_byte n k is = cc

pub sent_name : (n : ℕ) (a : Act) (m : List ℕ) → step_kind_of n a ≡ Some (step_kinds.Send m) → m ≡ n ∷ []
sent_name n Work m is = absurd (cc)
sent_name n (Send message) m is = cc
sent_name n (Again from sent again) m is = absurd (cc)
sent_name n (Receive from message) m is = absurd (cc)
sent_name n (Check line) m is = absurd (cc)
sent_name n (Present line) m is = absurd (cc)
sent_name n (Fork s line) m is = absurd (cc)
sent_name n (Begin from s) m is = absurd (cc)
sent_name n (Retire target r line) m is = absurd (cc)
sent_name n (Absorb from r line) m is = absurd (cc)
sent_name n (Return now) m is = absurd (cc)

pub forked_child : (n : ℕ) (a : Act) (c : Name) (given : IdTree) → step_kind_of n a ≡ Some (step_kinds.Fork c given) → (s : Start) × (line : List ℕ) × (a ≡ Fork s line) × (s.child ≡ c)
forked_child n Work c given is = absurd (cc)
forked_child n (Send message) c given is = absurd (cc)
forked_child n (Again from sent again) c given is = absurd (cc)
forked_child n (Receive from message) c given is = absurd (cc)
forked_child n (Check line) c given is = absurd (cc)
forked_child n (Present line) c given is = absurd (cc)
forked_child n (Fork s line) c given is = (s, line, refl, cc)
forked_child n (Begin from s) c given is = absurd (cc)
forked_child n (Retire target r line) c given is = absurd (cc)
forked_child n (Absorb from r line) c given is = absurd (cc)
forked_child n (Return now) c given is = absurd (cc)

pub absorbed_of : (n : ℕ) (a : Act) (p : Name) → step_kind_of n a ≡ Some (step_kinds.Absorb p) → (from : ℕ) × (r : Retirement) × (line : List ℕ) × (a ≡ Absorb from r line) × (r.process ≡ p)
absorbed_of n Work p is = absurd (cc)
absorbed_of n (Send message) p is = absurd (cc)
absorbed_of n (Again from sent again) p is = absurd (cc)
absorbed_of n (Receive from message) p is = absurd (cc)
absorbed_of n (Check line) p is = absurd (cc)
absorbed_of n (Present line) p is = absurd (cc)
absorbed_of n (Fork s line) p is = absurd (cc)
absorbed_of n (Begin from s) p is = absurd (cc)
absorbed_of n (Retire target r line) p is = absurd (cc)
absorbed_of n (Absorb from r line) p is = (from, r, line, refl, cc)
absorbed_of n (Return now) p is = absurd (cc)
