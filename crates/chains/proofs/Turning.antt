-- What is held behind a turn, and that admission reaches it.
use Rattle.std.proofs.Common.{◌≡◌, inl, inr, ℕ, Bool, true, false, List, refl, sym, ap, subst, ◌∙◌}
use Rattle.report_line.specs.declared.marked.MarkedReport.{MarkedReport}
use Rattle.report_line.specs.declared.call.Call.{Call}
use Rattle.report_line.specs.declared.call.Call.TheVariants as calls
use Rattle.report_line.specs.declared.reply.Reply.{Reply}
use Rattle.report_line.specs.declared.reply.Reply.TheVariants.{Accepted, Settled, Fail}
use Rattle.report_line.specs.declared.reply.Reply.TheVariants.{No as Refused}
use Rattle.chains.specs.declared.refusal.No.{No}
use Rattle.chains.specs.Answers.{IsRefusal}
use Rattle.report_line.specs.declared.reply.Outcome.TheVariants.{Before, Unknown}
use Rattle.chains.specs.Processes.{Name}
use Rattle.chains.specs.Held.{Held, with_stop}
use Rattle.chains.specs.Admission.{IsAdmission, held_after}
use Rattle.chains.specs.Folded.{IsReached}
use Rattle.chains.specs.Turns.{Fate, fine, memory, before, unknown, IsDeviceFree, IsQuestionTurn, IsReportTurn, IsReported, LeavesSettled, IsSettleAnswered, IsTurn}
use Rattle.chains.proofs.Folding.{push_reached}

-- ---- what is left

-- a question changes nothing
pub unchanged : (stopped : Bool) (fate : Fate) (held : Held) (Answers : Reply → Type 0) (reply : Reply) (after : Held) → IsQuestionTurn stopped fate held Answers reply after → after ≡ held
unchanged true fate held Answers reply after t = t.2
unchanged false fate held Answers reply after t = t.2

-- what a report's turn leaves is told by its reply
pub after_report_turn : (stopped : Bool) (fate : Fate) (held : Held) (r : MarkedReport) (reply : Reply) (after : Held) → IsReported stopped fate held r reply after → after ≡ held_after held r reply
after_report_turn true fate held r reply after t = t.2 ∙ sym (ap (held_after held r) t.1)
after_report_turn false fine held r reply after t = t.1
after_report_turn false memory held r reply after t = t.4 ∙ sym (ap (held_after held r) t.3)
after_report_turn false before held r reply after t = t.2 ∙ sym (ap (held_after held r) t.1)
after_report_turn false unknown held r reply after t = t.2 ∙ sym (ap (held_after held r) t.1)

-- ---- what is refused

-- a refusal is a turn that changes nothing
pub refused_turn : (held after : Held) (m : MarkedReport) (refusal : No) → IsRefusal held m refusal → after ≡ held
    → (fate : Fate) × IsDeviceFree fate × IsReportTurn fate held m (Refused refusal.code refusal.name refusal.value) after
refused_turn held after m refusal (inl h) same = (fine, tt, (h, same))
refused_turn held after m refusal (inr (answer, h, t, code, name, value)) same = (memory, tt, (answer, h, t, rw (code, name, value) refl, same))

-- ---- what is reached

stop_reached : (held : Held) → IsReached held → IsReached (with_stop held)
stop_reached held at = record { folded = at.folded; marked = at.marked; past = at.past; counted = at.counted }

pub still_reached : (held : Held) (m : MarkedReport) (answer : Reply) → IsReached held → IsAdmission held m answer → IsReached (held_after held m answer)
still_reached held m (Accepted front) at admitted = push_reached held m front at admitted
still_reached held m (Fail Before) at admitted = stop_reached held at
still_reached held m (Fail Unknown) at admitted = stop_reached held at
still_reached held m _ at admitted = at

report_reached : (stopped : Bool) (fate : Fate) (held : Held) (m : MarkedReport) (reply : Reply) (after : Held) → IsReached held → IsReported stopped fate held m reply after → IsReached after
report_reached true fate held m reply after at t = subst IsReached (sym t.2) at
report_reached false fine held m reply after at t = subst IsReached (sym t.1) (still_reached held m reply at t.0)
report_reached false memory held m reply after at t = subst IsReached (sym t.4) at
report_reached false before held m reply after at t = subst IsReached (sym t.2) (stop_reached held at)
report_reached false unknown held m reply after at t = subst IsReached (sym t.2) (stop_reached held at)

left_reached : (held : Held) (names : List Name) (reply : Reply) (after : Held) → IsReached held → LeavesSettled reply held names after → IsReached after
left_reached held names (Settled epoch front) after at left = left.2.reached
left_reached held names _ after at left = subst IsReached (sym left) at

settlement_reached : (stopped : Bool) (fate : Fate) (held : Held) (front : ℕ) (names : List Name) (reply : Reply) (after : Held) → IsReached held → IsSettleAnswered stopped fate held front names reply after → IsReached after
settlement_reached true fate held front names reply after at t = subst IsReached (sym t.2) at
settlement_reached false fine held front names reply after at t = left_reached held names reply after at t.1
settlement_reached false memory held front names reply after at t = subst IsReached (sym t.4) at
settlement_reached false before held front names reply after at t = subst IsReached (sym t.2) (stop_reached held at)
settlement_reached false unknown held front names reply after at t = subst IsReached (sym t.2) (stop_reached held at)

pub turn_reached : (held after : Held) (call : Call) (reply : Reply) → IsReached held → IsTurn held call reply after → IsReached after
turn_reached held after (calls.Report m) reply reach (fate, t) = report_reached held.stopped fate held m reply after reach t
turn_reached held after (calls.Line names) reply reach (fate, t) = subst IsReached (sym (unchanged held.stopped fate held _ reply after t)) reach
turn_reached held after calls.Garbage reply reach (fate, t) = subst IsReached (sym (unchanged held.stopped fate held _ reply after t)) reach
turn_reached held after (calls.Settle front names) reply reach (fate, t) = settlement_reached held.stopped fate held front names reply after reach t
turn_reached held after (calls.State p) reply reach (fate, t) = subst IsReached (sym (unchanged held.stopped fate held _ reply after t)) reach
turn_reached held after calls.Bye reply reach (fate, t) = subst IsReached (sym t.2) reach
turn_reached held after (calls.Bad n) reply reach (fate, t) = subst IsReached (sym t.2) reach
turn_reached held after calls.Unread reply reach (fate, t) = subst IsReached (sym t.2) reach
