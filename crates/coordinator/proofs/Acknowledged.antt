-- Behind OK and SETTLED: the record that they acknowledge, over a store that is not stopped.
use Rattle.std.proofs.Common.{◌≡◌, inl, inr, ℕ, ◌-◌, List, [], ◌∷◌, Option, Some, None, Bool, true, false, refl, ap, ◌∙◌, subst}
use Rattle.record_file.specs.File.{Said}
use Rattle.report_line.specs.declared.marked.MarkedReport.{MarkedReport}
use Rattle.report_line.specs.declared.call.Call.{Call}
use Rattle.report_line.specs.declared.call.Call.TheVariants as calls
use Rattle.report_line.specs.declared.reply.Outcome.TheVariants.{Before, Unknown, Stopped}
use Rattle.report_line.specs.declared.reply.Reply.{Reply}
use Rattle.report_line.specs.declared.reply.Reply.TheVariants.{Accepted, Settled, Fail, Bye, Bad}
use Rattle.chains.specs.Processes.{Name, target_of}
use Rattle.chains.specs.Held.{Held}
use Rattle.chains.specs.Admission.{held_after}
use Rattle.chains.specs.Turns.{Fate, fine, memory, before, unknown, no_memory, IsLineReply, IsGarbageReply, IsStateReply, state_by, IsQuestionTurn, IsReported, IsSettling, LeavesSettled, IsSettleAnswered, IsTurn}
use Rattle.desk.specs.Records.{said_of, said_settled, recorded_by}
use Rattle.desk.proofs.Recording.{settles_so, still_goes}
use Rattle.coordinator.specs.Standing.{IsAcknowledgement}
use Rattle.coordinator.proofs.Telling.{Kinds, admitted}

-- the call has a record, and the store goes on
abbrev pub IsRecordedThen : Held → Call → Reply → Type 0
IsRecordedThen after call reply = (one : Said) × (recorded_by call reply ≡ one ∷ []) × (after.stopped ≡ false)

-- what is another reply acknowledges nothing
never : (reply said : Reply) → reply ≡ said → (IsAcknowledgement said → ⊥) → IsAcknowledgement reply → ⊥
never reply said e none told = none (subst IsAcknowledgement e told)

-- ---- reports

no_settlement : (held : Held) (epoch front : ℕ) → Kinds held (Settled epoch front) → ⊥
no_settlement held epoch front (inl refused) = refused
no_settlement held epoch front (inr (inl e)) = cc
no_settlement held epoch front (inr (inr e)) = cc

by_tests : (held after : Held) (m : MarkedReport) (reply : Reply) → held.stopped ≡ false → Kinds held reply → after ≡ held_after held m reply → IsAcknowledgement reply
    → IsRecordedThen after (calls.Report m) reply
by_tests held after m (Accepted front) goes kind is told = (said_of m, refl, ap (λ (h : Held). h.stopped) is ∙ goes)
by_tests held after m (Settled epoch front) goes kind is told = absurd (no_settlement held epoch front kind)
by_tests held after m _ goes kind is told = absurd told

by_report : (b : Bool) (fate : Fate) (held after : Held) (m : MarkedReport) (reply : Reply) → held.stopped ≡ b → IsReported b fate held m reply after → IsAcknowledgement reply
    → IsRecordedThen after (calls.Report m) reply
by_report true fate held after m reply is step told = absurd (never reply (Fail Stopped) step.1 (λ no_such. no_such) told)
by_report false fine held after m reply is step told = by_tests held after m reply is (admitted held reply m.epoch m.report step.0) step.1 told
by_report false memory held after m reply is step told = absurd (never reply no_memory step.3 (λ no_such. no_such) told)
by_report false before held after m reply is step told = absurd (never reply (Fail Before) step.1 (λ no_such. no_such) told)
by_report false unknown held after m reply is step told = absurd (never reply (Fail Unknown) step.1 (λ no_such. no_such) told)

-- ---- settlements

by_settling : (held after : Held) (front : ℕ) (names : List Name) (reply : Reply) → held.stopped ≡ false → IsSettling held front names reply → LeavesSettled reply held names after → IsAcknowledgement reply
    → IsRecordedThen after (calls.Settle front names) reply
by_settling held after front names (Settled epoch now) goes settling left told = (said_settled (epoch - 1) front names, refl, still_goes held names after goes left)
by_settling held after front names (Accepted f) goes settling left told = absurd (let e = settles_so held front names (Accepted f) (λ code name value e. cc) settling in cc)
by_settling held after front names _ goes settling left told = absurd told

by_settlement : (b : Bool) (fate : Fate) (held after : Held) (front : ℕ) (names : List Name) (reply : Reply) → held.stopped ≡ b → IsSettleAnswered b fate held front names reply after → IsAcknowledgement reply
    → IsRecordedThen after (calls.Settle front names) reply
by_settlement true fate held after front names reply is step told = absurd (never reply (Fail Stopped) step.1 (λ no_such. no_such) told)
by_settlement false fine held after front names reply is step told = by_settling held after front names reply is step.0 step.1 told
by_settlement false memory held after front names reply is step told = absurd (never reply no_memory step.3 (λ no_such. no_such) told)
by_settlement false before held after front names reply is step told = absurd (never reply (Fail Before) step.1 (λ no_such. no_such) told)
by_settlement false unknown held after front names reply is step told = absurd (never reply (Fail Unknown) step.1 (λ no_such. no_such) told)

-- ---- questions

of_line : (held : Held) (names : List Name) (reply : Reply) → IsLineReply held names reply → IsAcknowledgement reply → ⊥
of_line held names reply (inl (q, e)) = never reply _ e (λ no_such. no_such)
of_line held names reply (inr (q, inl (name, first, e))) = never reply _ e (λ no_such. no_such)
of_line held names reply (inr (q, inr (all, e))) = never reply _ e (λ no_such. no_such)

of_garbage : (held : Held) (reply : Reply) → IsGarbageReply held reply → IsAcknowledgement reply → ⊥
of_garbage held reply (inl (q, e)) = never reply _ e (λ no_such. no_such)
of_garbage held reply (inr (q, e)) = never reply _ e (λ no_such. no_such)

of_told : (held : Held) (p : Name) (target : Option Name) (reply : Reply) → reply ≡ state_by target held.accepted p → IsAcknowledgement reply → ⊥
of_told held p None reply e = never reply _ e (λ no_such. no_such)
of_told held p (Some t) reply e = never reply _ e (λ no_such. no_such)

of_state : (held : Held) (p : Name) (reply : Reply) → IsStateReply held.accepted p reply → IsAcknowledgement reply → ⊥
of_state held p reply (inl (q, e)) = never reply _ e (λ no_such. no_such)
of_state held p reply (inr (q, inl (t, e))) = never reply _ e (λ no_such. no_such)
of_state held p reply (inr (q, inr (t, e))) = of_told held p (target_of p held.accepted) reply e

of_question : (b : Bool) (fate : Fate) (held after : Held) (Answers : Reply → Type 0) (reply : Reply) → (Answers reply → IsAcknowledgement reply → ⊥)
    → IsQuestionTurn b fate held Answers reply after → IsAcknowledgement reply → ⊥
of_question true fate held after Answers reply other step = never reply (Fail Stopped) step.1 (λ no_such. no_such)
of_question false fate held after Answers reply other step = other step.1

-- ---- each turn

pub acknowledged : (held after : Held) (call : Call) (reply : Reply) → IsTurn held call reply after → IsAcknowledgement reply → IsRecordedThen after call reply
acknowledged held after (calls.Report m) reply (fate, step) told = by_report held.stopped fate held after m reply refl step told
acknowledged held after (calls.Settle front names) reply (fate, step) told = by_settlement held.stopped fate held after front names reply refl step told
acknowledged held after (calls.Line names) reply (fate, step) told = absurd (of_question held.stopped fate held after (IsLineReply held names) reply (of_line held names reply) step told)
acknowledged held after calls.Garbage reply (fate, step) told = absurd (of_question held.stopped fate held after (IsGarbageReply held) reply (of_garbage held reply) step told)
acknowledged held after (calls.State p) reply (fate, step) told =
    absurd (of_question held.stopped fate held after (IsStateReply held.accepted p) reply (of_state held p reply) step told)
acknowledged held after calls.Bye reply (fate, step) told = absurd (never reply Bye step.1 (λ no_such. no_such) told)
acknowledged held after (calls.Bad n) reply (fate, step) told = absurd (never reply (Bad n) step.1 (λ no_such. no_such) told)
acknowledged held after calls.Unread reply (fate, step) told = absurd (never reply no_memory step.1 (λ no_such. no_such) told)
