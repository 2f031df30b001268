-- With memory enough and no device that fails, a line comes to one thing that is held.
use Rattle.std.proofs.Common.{◌≡◌, ℕ, Bool, true, false, List, sym, ap, subst, ◌∙◌}
use Rattle.report_line.specs.declared.call.Call.{Call}
use Rattle.report_line.specs.declared.call.Call.TheVariants as calls
use Rattle.report_line.specs.declared.marked.MarkedReport.{MarkedReport}
use Rattle.report_line.specs.declared.reply.Reply.{Reply}
use Rattle.report_line.specs.declared.reply.Reply.TheVariants.{Settled}
use Rattle.chains.specs.Processes.{Name}
use Rattle.chains.specs.Held.{Held}
use Rattle.chains.specs.Admission.{held_after}
use Rattle.chains.specs.Turns.{fine, IsReported, LeavesSettled, IsSettleAnswered, IsTurnWith}
use Rattle.chains.proofs.OneAnswer.{one_answer, one_settling}
use Rattle.chains.proofs.Turning.{unchanged}
use Rattle.propagate.proofs.Outcomes.{one_outcome}

left_once : (reply : Reply) (held : Held) (names : List Name) (a b : Held) → LeavesSettled reply held names a → LeavesSettled reply held names b → a ≡ b
left_once (Settled epoch front) held names a b first second = one_outcome held names a b first second
left_once _ held names a b first second = first ∙ sym second

report_once : (stopped : Bool) (held a b : Held) (m : MarkedReport) (x y : Reply) → IsReported stopped fine held m x a → IsReported stopped fine held m y b → a ≡ b
report_once true held a b m x y t u = t.2 ∙ sym u.2
report_once false held a b m x y t u = t.1 ∙ (ap (held_after held m) (one_answer held x y m.epoch m.report t.0 u.0) ∙ sym u.1)

settle_once : (stopped : Bool) (held a b : Held) (front : ℕ) (names : List Name) (x y : Reply) → IsSettleAnswered stopped fine held front names x a → IsSettleAnswered stopped fine held front names y b → a ≡ b
settle_once true held a b front names x y t u = t.2 ∙ sym u.2
settle_once false held a b front names x y t u =
    left_once y held names a b (subst (λ (r : Reply). LeavesSettled r held names a) (one_settling held x y front names t.0 u.0) t.1) u.1

pub turn_once : (held a b : Held) (call : Call) (x y : Reply) → IsTurnWith fine held call x a → IsTurnWith fine held call y b → a ≡ b
turn_once held a b (calls.Report m) x y t u = report_once held.stopped held a b m x y t u
turn_once held a b (calls.Line names) x y t u = unchanged held.stopped fine held _ x a t ∙ sym (unchanged held.stopped fine held _ y b u)
turn_once held a b calls.Garbage x y t u = unchanged held.stopped fine held _ x a t ∙ sym (unchanged held.stopped fine held _ y b u)
turn_once held a b (calls.Settle front names) x y t u = settle_once held.stopped held a b front names x y t u
turn_once held a b (calls.State p) x y t u = unchanged held.stopped fine held _ x a t ∙ sym (unchanged held.stopped fine held _ y b u)
turn_once held a b calls.Bye x y t u = t.2 ∙ sym u.2
turn_once held a b (calls.Bad n) x y t u = t.2 ∙ sym u.2
turn_once held a b calls.Unread x y t u = t.2 ∙ sym u.2
