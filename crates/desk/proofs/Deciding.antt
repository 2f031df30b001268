-- Where FAIL is said, and what is held then.
use Rattle.std.proofs.Common.{◌≡◌, ◌∙◌, inl, inr, Bool, true, false, List, ◌++◌, ℕ, refl, ap, subst, append-nil}
use Rattle.record_file.specs.File.{Said, Stands}
use Rattle.report_line.specs.declared.call.Call.{Call}
use Rattle.report_line.specs.declared.call.Call.TheVariants as calls
use Rattle.report_line.specs.declared.marked.MarkedReport.{MarkedReport}
use Rattle.report_line.specs.declared.reply.Outcome.TheVariants.{Before, Unknown, Stopped}
use Rattle.report_line.specs.declared.reply.Reply.{Reply}
use Rattle.report_line.specs.declared.reply.Reply.TheVariants.{Fail}
use Rattle.chains.specs.Processes.{Name}
use Rattle.chains.specs.Held.{Held, with_stop}
use Rattle.chains.specs.Turns.{Fate, fine, memory, before, unknown, IsQuestionTurn, IsReported, IsSettleAnswered, IsTurn}
use Rattle.chains.proofs.Turning.{unchanged, after_report_turn}
use Rattle.chains.proofs.Unfailing.{failure_is_other, of_admission, of_settling, no_failure}
use Rattle.desk.specs.working.Parts.{MayBeLeftBy}
use Rattle.desk.proofs.Recording.{failed_records}

-- nothing changes then
same_settlement : (stopped : Bool) (fate : Fate) (held : Held) (front : ℕ) (names : List Name) (after : Held) → IsSettleAnswered stopped fate held front names (Fail Stopped) after → after ≡ held
same_settlement true fate held front names after t = t.2
same_settlement false fine held front names after t = t.1
same_settlement false memory held front names after t = t.4
same_settlement false before held front names after t = absurd (let e = t.1 in cc)
same_settlement false unknown held front names after t = absurd (let e = t.1 in cc)

same_held : (held after : Held) (call : Call) → IsTurn held call (Fail Stopped) after → after ≡ held
same_held held after (calls.Report m) (fate, t) = after_report_turn held.stopped fate held m (Fail Stopped) after t
same_held held after (calls.Line names) (fate, t) = unchanged held.stopped fate held _ (Fail Stopped) after t
same_held held after calls.Garbage (fate, t) = unchanged held.stopped fate held _ (Fail Stopped) after t
same_held held after (calls.Settle front names) (fate, t) = same_settlement held.stopped fate held front names after t
same_held held after (calls.State p) (fate, t) = unchanged held.stopped fate held _ (Fail Stopped) after t
same_held held after calls.Bye (fate, t) = t.2
same_held held after (calls.Bad n) (fate, t) = t.2
same_held held after calls.Unread (fate, t) = t.2

stopped_cases : (stopped : Bool) (held after : Held) (call : Call) → held.stopped ≡ stopped → IsTurn held call (Fail Stopped) after → held.stopped ≡ true
stopped_cases true held after call is turn = is
stopped_cases false held after call is turn =
    absurd (no_failure held after call Stopped is (ap (λ (h : Held). h.stopped) (same_held held after call turn) ∙ is) turn)

pub stopped_only : (held after : Held) (call : Call) → IsTurn held call (Fail Stopped) after → held.stopped ≡ true
stopped_only held after call turn = stopped_cases held.stopped held after call refl turn

-- ---- FAIL before is said over a store that is not stopped, and acknowledges nothing

reported_before : (stopped : Bool) (fate : Fate) (held after : Held) (m : MarkedReport) → IsReported stopped fate held m (Fail Before) after → stopped ≡ false
reported_before true fate held after m t = absurd (let e = t.1 in cc)
reported_before false fate held after m t = refl

settled_before : (stopped : Bool) (fate : Fate) (held after : Held) (front : ℕ) (names : List Name) → IsSettleAnswered stopped fate held front names (Fail Before) after → stopped ≡ false
settled_before true fate held after front names t = absurd (let e = t.1 in cc)
settled_before false fate held after front names t = refl

asked_before : (stopped : Bool) (fate : Fate) (held after : Held) (Answers : Reply → Type 0) → IsQuestionTurn stopped fate held Answers (Fail Before) after → stopped ≡ false
asked_before true fate held after Answers t = absurd (let e = t.1 in cc)
asked_before false fate held after Answers t = refl

before_runs : (held after : Held) (call : Call) → IsTurn held call (Fail Before) after → held.stopped ≡ false
before_runs held after (calls.Report m) (fate, t) = reported_before held.stopped fate held after m t
before_runs held after (calls.Line names) (fate, t) = asked_before held.stopped fate held after _ t
before_runs held after calls.Garbage (fate, t) = asked_before held.stopped fate held after _ t
before_runs held after (calls.Settle front names) (fate, t) = settled_before held.stopped fate held after front names t
before_runs held after (calls.State p) (fate, t) = asked_before held.stopped fate held after _ t
before_runs held after calls.Bye (fate, t) = absurd (let e = t.1 in cc)
before_runs held after (calls.Bad n) (fate, t) = absurd (let e = t.1 in cc)
before_runs held after calls.Unread (fate, t) = absurd (let e = t.1 in cc)

before_stands : (said : List Said) (epoch : ℕ) (call : Call) (c : List ℕ) → MayBeLeftBy (Fail Before) said epoch call c → Stands said c
before_stands said epoch call c (inl stands) =
    subst (λ (ss : List Said). Stands ss c) (ap (λ (more : List Said). said ++ more) (failed_records call Before) ∙ append-nil said) stands
before_stands said epoch call c (inr (one, is, says, stands)) = absurd (cc says)

-- so a crash leaves the records alone
pub before_left : (held after : Held) (said : List Said) (call : Call) (reply : Reply) (c : List ℕ) → reply ≡ Fail Before → IsTurn held call reply after
    → (held.stopped ≡ false → MayBeLeftBy reply said held.epoch call c) → Stands said c
before_left held after said call reply c is turn left =
    let turned = subst (λ (x : Reply). IsTurn held call x after) is turn in
    before_stands said held.epoch call c (subst (λ (x : Reply). MayBeLeftBy x said held.epoch call c) is (left (before_runs held after call turned)))

-- ---- FAIL unknown is said over a store that is not stopped, and stops it

abbrev Stops : Held → Held → Type 0
Stops held after = (held.stopped ≡ false) × (after ≡ with_stop held)

unknown_report : (stopped : Bool) (fate : Fate) (held after : Held) (m : MarkedReport) → held.stopped ≡ stopped → IsReported stopped fate held m (Fail Unknown) after → Stops held after
unknown_report true fate held after m is t = absurd (let e = t.1 in cc)
unknown_report false fine held after m is t = absurd (of_admission (Fail Unknown) (failure_is_other Unknown) held m t.0)
unknown_report false memory held after m is t = absurd (let e = t.3 in cc)
unknown_report false before held after m is t = absurd (let e = t.1 in cc)
unknown_report false unknown held after m is t = (is, t.2)

unknown_settlement : (stopped : Bool) (fate : Fate) (held after : Held) (front : ℕ) (names : List Name) → held.stopped ≡ stopped → IsSettleAnswered stopped fate held front names (Fail Unknown) after → Stops held after
unknown_settlement true fate held after front names is t = absurd (let e = t.1 in cc)
unknown_settlement false fine held after front names is t = absurd (of_settling (Fail Unknown) (failure_is_other Unknown) held front names t.0)
unknown_settlement false memory held after front names is t = absurd (let e = t.3 in cc)
unknown_settlement false before held after front names is t = absurd (let e = t.1 in cc)
unknown_settlement false unknown held after front names is t = (is, t.2)

unknown_question : (stopped : Bool) (fate : Fate) (held after : Held) (Answers : Reply → Type 0) → IsQuestionTurn stopped fate held Answers (Fail Unknown) after → (stopped ≡ false) × (after ≡ held)
unknown_question true fate held after Answers t = absurd (let e = t.1 in cc)
unknown_question false fate held after Answers t = (refl, t.2)

not_asked : (held after : Held) (call : Call) → (held.stopped ≡ false) × (after ≡ held) → IsTurn held call (Fail Unknown) after → Stops held after
not_asked held after call (goes, same) turn = absurd (no_failure held after call Unknown goes (ap (λ (h : Held). h.stopped) same ∙ goes) turn)

unknown_call : (held after : Held) (call : Call) → IsTurn held call (Fail Unknown) after → Stops held after
unknown_call held after (calls.Report m) (fate, t) = unknown_report held.stopped fate held after m refl t
unknown_call held after (calls.Line names) (fate, t) = not_asked held after (calls.Line names) (unknown_question held.stopped fate held after _ t) (fate, t)
unknown_call held after calls.Garbage (fate, t) = not_asked held after calls.Garbage (unknown_question held.stopped fate held after _ t) (fate, t)
unknown_call held after (calls.Settle front names) (fate, t) = unknown_settlement held.stopped fate held after front names refl t
unknown_call held after (calls.State p) (fate, t) = not_asked held after (calls.State p) (unknown_question held.stopped fate held after _ t) (fate, t)
unknown_call held after calls.Bye (fate, t) = absurd (let e = t.1 in cc)
unknown_call held after (calls.Bad n) (fate, t) = absurd (let e = t.1 in cc)
unknown_call held after calls.Unread (fate, t) = absurd (let e = t.1 in cc)

pub unknown_stops : (held after : Held) (call : Call) (reply : Reply) → reply ≡ Fail Unknown → IsTurn held call reply after → (held.stopped ≡ false) × (after ≡ with_stop held)
unknown_stops held after call reply is turn = unknown_call held after call (subst (λ (x : Reply). IsTurn held call x after) is turn)
