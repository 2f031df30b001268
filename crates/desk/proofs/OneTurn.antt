-- A turn with its reply comes to one thing that is held.
use Rattle.std.proofs.Common.{◌≡◌, ◌∙◌, ℕ, Bool, true, false, List, sym, subst}
use Rattle.report_line.specs.declared.call.Call.{Call}
use Rattle.report_line.specs.declared.call.Call.TheVariants as calls
use Rattle.report_line.specs.declared.reply.Outcome.TheVariants.{Before, Unknown}
use Rattle.report_line.specs.declared.reply.Reply.{Reply}
use Rattle.report_line.specs.declared.reply.Reply.TheVariants.{Settled, Fail}
use Rattle.chains.specs.Processes.{Name}
use Rattle.chains.specs.Held.{Held, with_stop}
use Rattle.chains.specs.Settled.{IsSettled}
use Rattle.chains.specs.Turns.{Fate, fine, memory, before, unknown, IsSettling, LeavesSettled, IsSettleAnswered, IsTurn}
use Rattle.chains.proofs.Turning.{unchanged, after_report_turn}
use Rattle.chains.proofs.Unfailing.{failure_is_other, of_settling}
use Rattle.propagate.proofs.Outcomes.{one_outcome}

-- what a settlement with this reply leaves
abbrev LeftBy : Reply → Held → List Name → Held → Type 0
LeftBy (Settled epoch front) held names after = IsSettled held names after
LeftBy (Fail Before) held names after = after ≡ with_stop held
LeftBy (Fail Unknown) held names after = after ≡ with_stop held
LeftBy _ held names after = after ≡ held

left_fine : (held : Held) (front : ℕ) (names : List Name) (reply : Reply) (after : Held) → IsSettling held front names reply → LeavesSettled reply held names after → LeftBy reply held names after
left_fine held front names (Settled epoch now) after settling left = left
left_fine held front names (Fail Before) after settling left = absurd (of_settling (Fail Before) (failure_is_other Before) held front names settling)
left_fine held front names (Fail Unknown) after settling left = absurd (of_settling (Fail Unknown) (failure_is_other Unknown) held front names settling)
left_fine held front names _ after settling left = left

left_by : (stopped : Bool) (fate : Fate) (held : Held) (front : ℕ) (names : List Name) (reply : Reply) (after : Held) → IsSettleAnswered stopped fate held front names reply after → LeftBy reply held names after
left_by true fate held front names reply after t = subst (λ (x : Reply). LeftBy x held names after) (sym t.1) t.2
left_by false fine held front names reply after t = left_fine held front names reply after t.0 t.1
left_by false memory held front names reply after t = subst (λ (x : Reply). LeftBy x held names after) (sym t.3) t.4
left_by false before held front names reply after t = subst (λ (x : Reply). LeftBy x held names after) (sym t.1) t.2
left_by false unknown held front names reply after t = subst (λ (x : Reply). LeftBy x held names after) (sym t.1) t.2

one_left : (reply : Reply) (held : Held) (names : List Name) (a b : Held) → LeftBy reply held names a → LeftBy reply held names b → a ≡ b
one_left (Settled epoch front) held names a b first second = one_outcome held names a b first second
one_left (Fail Before) held names a b first second = first ∙ sym second
one_left (Fail Unknown) held names a b first second = first ∙ sym second
one_left _ held names a b first second = first ∙ sym second

pub turn_once : (held a b : Held) (call : Call) (reply : Reply) → IsTurn held call reply a → IsTurn held call reply b → a ≡ b
turn_once held a b (calls.Report m) reply (fate, t) (other, u) = after_report_turn held.stopped fate held m reply a t ∙ sym (after_report_turn held.stopped other held m reply b u)
turn_once held a b (calls.Line names) reply (fate, t) (other, u) = unchanged held.stopped fate held _ reply a t ∙ sym (unchanged held.stopped other held _ reply b u)
turn_once held a b calls.Garbage reply (fate, t) (other, u) = unchanged held.stopped fate held _ reply a t ∙ sym (unchanged held.stopped other held _ reply b u)
turn_once held a b (calls.Settle front names) reply (fate, t) (other, u) =
    one_left reply held names a b (left_by held.stopped fate held front names reply a t) (left_by held.stopped other held front names reply b u)
turn_once held a b (calls.State p) reply (fate, t) (other, u) = unchanged held.stopped fate held _ reply a t ∙ sym (unchanged held.stopped other held _ reply b u)
turn_once held a b calls.Bye reply (fate, t) (other, u) = t.2 ∙ sym u.2
turn_once held a b (calls.Bad n) reply (fate, t) (other, u) = t.2 ∙ sym u.2
turn_once held a b calls.Unread reply (fate, t) (other, u) = t.2 ∙ sym u.2
