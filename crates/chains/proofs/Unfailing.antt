-- Replies that no turn gives: of a device that failed, where the store is not stopped behind it; and a line, which is only shown.
use Rattle.std.proofs.Common.{◌≡◌, ◌≢◌, ℕ, Bool, true, false, List, Option, Some, None, inl, inr, sym, ap, ◌∙◌}
use Rattle.std.specs.Prelude.{slice_get}
use Rattle.std.proofs.lemmas.Bool.{true≢false}
use Rattle.report_line.specs.declared.code.Code.{Code}
use Rattle.report_line.specs.declared.report.ReportKind.{ReportKind}
use Rattle.report_line.specs.declared.report.ReportKind.TheVariants.{Fork, Retire, Absorb}
use Rattle.report_line.specs.declared.report.NumberedReport.{NumberedReport}
use Rattle.report_line.specs.declared.report.Report.{Report}
use Rattle.report_line.specs.declared.report.Report.TheVariants.{Begin, Numbered}
use Rattle.report_line.specs.declared.marked.MarkedReport.{MarkedReport}
use Rattle.report_line.specs.declared.call.Call.{Call}
use Rattle.report_line.specs.declared.call.Call.TheVariants as calls
use Rattle.report_line.specs.declared.reply.Outcome.{Outcome}
use Rattle.report_line.specs.declared.reply.Reply.{Reply}
use Rattle.report_line.specs.declared.reply.Reply.TheVariants.{Accepted, Old, No, Line, State, Taken, Settled, Fail}
use Rattle.chains.specs.Processes.{Name, known, target_of}
use Rattle.chains.specs.Held.{Held}
use Rattle.chains.specs.Admission.{Decides, FitsOrNot, IsBeginReply, IsActionReply, IsStampReply, IsWaitingReply, IsStandingReply, IsReportReply, IsAdmission}
use Rattle.chains.specs.Turns.{Fate, fine, memory, before, unknown, IsLineReply, IsGarbageReply, state_by, IsStateReply, IsQuestionTurn, IsReported, IsSettling, IsSettleAnswered, IsTurn}
use Rattle.chains.proofs.Turning.{unchanged}

-- a reply that no test of a report, of a question or of a settlement gives
pub record IsOther (answer : Reply) : Type 0 where
  pub no_refusal : (code : Code) (name : Option Name) (value : Option (List ℕ)) → answer ≢ No code name value
  pub no_old : (front : ℕ) → answer ≢ Old front
  pub no_accepted : (front : ℕ) → answer ≢ Accepted front
  pub no_taken : (front : ℕ) → answer ≢ Taken front
  pub no_settled : (epoch front : ℕ) → answer ≢ Settled epoch front
  pub no_state : (p : Name) (reports elements : ℕ) (live : Bool) (id : List ℕ) → answer ≢ State p reports elements live id

pub failure_is_other : (o : Outcome) → IsOther (Fail o)
failure_is_other o = record { no_refusal = λ code name value e. cc; no_old = λ front e. cc; no_accepted = λ front e. cc; no_taken = λ front e. cc; no_settled = λ epoch front e. cc; no_state = λ p reports elements live id e. cc }

line_is_other : (text : List ℕ) → IsOther (Line text)
line_is_other text = record { no_refusal = λ code name value e. cc; no_old = λ front e. cc; no_accepted = λ front e. cc; no_taken = λ front e. cc; no_settled = λ epoch front e. cc; no_state = λ p reports elements live id e. cc }

-- a test with another reply did not decide
behind : {F L : Type 0} {answer reply : Reply} → Decides F reply answer L → answer ≢ reply → L
behind (inl h) other = absurd (other h.1)
behind (inr h) other = h.1

module _ (answer : Reply) (other : IsOther answer) where
  -- ---- reports

  of_room : (held : Held) (r : Report) → ¬ FitsOrNot held r answer
  of_room held r h = other.no_accepted _ (behind (behind h (other.no_refusal _ _ _)) (other.no_refusal _ _ _))

  of_action : (held : Held) (r : NumberedReport) (a : ReportKind) → ¬ IsActionReply held r a answer
  of_action held r (Fork f) h = of_room held (Numbered r) (behind (behind h (other.no_refusal _ _ _)) (other.no_refusal _ _ _))
  of_action held r (Retire target) h = of_room held (Numbered r) (behind h (other.no_refusal _ _ _))
  of_action held r (Absorb retired) h = of_room held (Numbered r) (behind h (other.no_refusal _ _ _))
  of_action held r _ h = of_room held (Numbered r) h

  of_stamp : (held : Held) (r : NumberedReport) (a : ReportKind) → ¬ IsStampReply held r a answer
  of_stamp held r a h = of_action held r a (behind (behind h (other.no_refusal _ _ _)) (other.no_refusal _ _ _))

  of_waiting : (held : Held) (r : NumberedReport) (a : ReportKind) → ¬ IsWaitingReply held r a answer
  of_waiting held r (Absorb retired) h = of_stamp held r (Absorb retired) (behind h (other.no_refusal _ _ _))
  of_waiting held r a h = of_stamp held r a h

  of_standing : (t : Option Name) (held : Held) (r : NumberedReport) → ¬ IsStandingReply t held r answer
  of_standing (Some target) held r h = other.no_refusal _ _ _ h
  of_standing None held r h = of_waiting held r r.action (behind h (other.no_refusal _ _ _))

  of_begin : (root : Option Name) (held : Held) (epoch : ℕ) (p : Name) → ¬ IsBeginReply root held epoch p answer
  of_begin None held epoch p h = of_room held (Begin p) (behind h (other.no_refusal _ _ _))
  of_begin (Some root) held epoch p h = other.no_old _ (behind h (other.no_refusal _ _ _))

  of_report_reply : (held : Held) (epoch : ℕ) (r : Report) → ¬ IsReportReply held epoch r answer
  of_report_reply held epoch (Begin p) h = of_begin (slice_get (known held.accepted) 0) held epoch p h
  of_report_reply held epoch (Numbered r) h =
      of_standing (target_of r.process held.accepted) held r (behind (behind (behind (behind h (other.no_refusal _ _ _)) (other.no_refusal _ _ _)) (other.no_old _)) (other.no_refusal _ _ _))

  pub of_admission : (held : Held) (m : MarkedReport) → ¬ IsAdmission held m answer
  of_admission held m h = of_report_reply held m.epoch m.report h

  -- ---- questions

  of_line : (held : Held) (names : List Name) → ¬ IsLineReply held names answer
  of_line held names h = elim (behind h (other.no_refusal _ _ _)) [
    | inl first ↦ other.no_refusal _ _ _ first.2
    | inr all ↦ other.no_taken _ all.1
  ]

  of_garbage : (held : Held) → ¬ IsGarbageReply held answer
  of_garbage held h = other.no_taken _ (behind h (other.no_refusal _ _ _))

  of_target : (t : Option Name) (accepted : List Report) (p : Name) → answer ≢ state_by t accepted p
  of_target None accepted p e = other.no_state _ _ _ _ _ e
  of_target (Some target) accepted p e = other.no_state _ _ _ _ _ e

  of_state : (accepted : List Report) (p : Name) → ¬ IsStateReply accepted p answer
  of_state accepted p h = of_target (target_of p accepted) accepted p (behind (behind h (other.no_refusal _ _ _)) (other.no_refusal _ _ _))

  -- ---- settlements

  pub of_settling : (held : Held) (front : ℕ) (names : List Name) → ¬ IsSettling held front names answer
  of_settling held front names h = elim (behind h (other.no_refusal _ _ _)) [
    | inl first ↦ other.no_refusal _ _ _ first.2
    | inr all ↦ other.no_settled _ _ (behind (behind all.1 (other.no_refusal _ _ _)) (other.no_refusal _ _ _))
  ]

-- ---- turns that tell of no device that failed

of_report : (stopped : Bool) (fate : Fate) (held : Held) (r : MarkedReport) (o : Outcome) (after : Held) → stopped ≡ false → after.stopped ≡ false → ¬ IsReported stopped fate held r (Fail o) after
of_report true fate held r o after up still t = true≢false up
of_report false fine held r o after up still t = of_admission (Fail o) (failure_is_other o) held r t.0
of_report false memory held r o after up still t = let e = t.3 in cc
of_report false before held r o after up still t = true≢false (sym (ap (λ (h : Held). h.stopped) t.2) ∙ still)
of_report false unknown held r o after up still t = true≢false (sym (ap (λ (h : Held). h.stopped) t.2) ∙ still)

of_question : (stopped : Bool) (fate : Fate) (held : Held) (Answers : Reply → Type 0) (o : Outcome) (after : Held) → stopped ≡ false → ¬ Answers (Fail o) → ¬ IsQuestionTurn stopped fate held Answers (Fail o) after
of_question true fate held Answers o after up other t = true≢false up
of_question false fate held Answers o after up other t = other t.1

of_settlement : (stopped : Bool) (fate : Fate) (held : Held) (front : ℕ) (names : List Name) (o : Outcome) (after : Held) → stopped ≡ false → after.stopped ≡ false → ¬ IsSettleAnswered stopped fate held front names (Fail o) after
of_settlement true fate held front names o after up still t = true≢false up
of_settlement false fine held front names o after up still t = of_settling (Fail o) (failure_is_other o) held front names t.0
of_settlement false memory held front names o after up still t = let e = t.3 in cc
of_settlement false before held front names o after up still t = true≢false (sym (ap (λ (h : Held). h.stopped) t.2) ∙ still)
of_settlement false unknown held front names o after up still t = true≢false (sym (ap (λ (h : Held). h.stopped) t.2) ∙ still)

pub no_failure : (held after : Held) (call : Call) (o : Outcome) → held.stopped ≡ false → after.stopped ≡ false → ¬ IsTurn held call (Fail o) after
no_failure held after (calls.Report r) o up still (fate, t) = of_report held.stopped fate held r o after up still t
no_failure held after (calls.Line names) o up still (fate, t) = of_question held.stopped fate held (IsLineReply held names) o after up (of_line (Fail o) (failure_is_other o) held names) t
no_failure held after calls.Garbage o up still (fate, t) = of_question held.stopped fate held (IsGarbageReply held) o after up (of_garbage (Fail o) (failure_is_other o) held) t
no_failure held after (calls.Settle front names) o up still (fate, t) = of_settlement held.stopped fate held front names o after up still t
no_failure held after (calls.State p) o up still (fate, t) =
    of_question held.stopped fate held (IsStateReply held.accepted p) o after up (of_state (Fail o) (failure_is_other o) held.accepted p) t
no_failure held after calls.Bye o up still (fate, t) = let e = t.1 in cc
no_failure held after (calls.Bad n) o up still (fate, t) = let e = t.1 in cc
no_failure held after calls.Unread o up still (fate, t) = let e = t.1 in cc

-- ---- a turn's reply is never a line, which is only shown

line_of_report : (stopped : Bool) (fate : Fate) (held : Held) (r : MarkedReport) (text : List ℕ) (after : Held) → ¬ IsReported stopped fate held r (Line text) after
line_of_report true fate held r text after t = let e = t.1 in cc
line_of_report false fine held r text after t = of_admission (Line text) (line_is_other text) held r t.0
line_of_report false memory held r text after t = let e = t.3 in cc
line_of_report false before held r text after t = let e = t.1 in cc
line_of_report false unknown held r text after t = let e = t.1 in cc

line_of_question : (stopped : Bool) (fate : Fate) (held : Held) (Answers : Reply → Type 0) (text : List ℕ) (after : Held) → ¬ Answers (Line text) → ¬ IsQuestionTurn stopped fate held Answers (Line text) after
line_of_question true fate held Answers text after other t = let e = t.1 in cc
line_of_question false fate held Answers text after other t = other t.1

line_of_settlement : (stopped : Bool) (fate : Fate) (held : Held) (front : ℕ) (names : List Name) (text : List ℕ) (after : Held) → ¬ IsSettleAnswered stopped fate held front names (Line text) after
line_of_settlement true fate held front names text after t = let e = t.1 in cc
line_of_settlement false fine held front names text after t = of_settling (Line text) (line_is_other text) held front names t.0
line_of_settlement false memory held front names text after t = let e = t.3 in cc
line_of_settlement false before held front names text after t = let e = t.1 in cc
line_of_settlement false unknown held front names text after t = let e = t.1 in cc

pub no_line : (held after : Held) (call : Call) (text : List ℕ) → ¬ IsTurn held call (Line text) after
no_line held after (calls.Report r) text (fate, t) = line_of_report held.stopped fate held r text after t
no_line held after (calls.Line names) text (fate, t) = line_of_question held.stopped fate held (IsLineReply held names) text after (of_line (Line text) (line_is_other text) held names) t
no_line held after calls.Garbage text (fate, t) = line_of_question held.stopped fate held (IsGarbageReply held) text after (of_garbage (Line text) (line_is_other text) held) t
no_line held after (calls.Settle front names) text (fate, t) = line_of_settlement held.stopped fate held front names text after t
no_line held after (calls.State p) text (fate, t) = line_of_question held.stopped fate held (IsStateReply held.accepted p) text after (of_state (Line text) (line_is_other text) held.accepted p) t
no_line held after calls.Bye text (fate, t) = let e = t.1 in cc
no_line held after (calls.Bad n) text (fate, t) = let e = t.1 in cc
no_line held after calls.Unread text (fate, t) = let e = t.1 in cc

report_when_stopped : (stopped : Bool) (fate : Fate) (held : Held) (r : MarkedReport) (reply : Reply) (after : Held) → stopped ≡ true → IsReported stopped fate held r reply after → after ≡ held
report_when_stopped true fate held r reply after down t = t.2
report_when_stopped false fate held r reply after down t = absurd (true≢false (sym down))

settlement_when_stopped : (stopped : Bool) (fate : Fate) (held : Held) (front : ℕ) (names : List Name) (reply : Reply) (after : Held) → stopped ≡ true → IsSettleAnswered stopped fate held front names reply after → after ≡ held
settlement_when_stopped true fate held front names reply after down t = t.2
settlement_when_stopped false fate held front names reply after down t = absurd (true≢false (sym down))

-- a stopped store stays as it is
pub stays_stopped : (held after : Held) (call : Call) (reply : Reply) → held.stopped ≡ true → IsTurn held call reply after → after ≡ held
stays_stopped held after (calls.Report r) reply down (fate, t) = report_when_stopped held.stopped fate held r reply after down t
stays_stopped held after (calls.Line names) reply down (fate, t) = unchanged held.stopped fate held _ reply after t
stays_stopped held after calls.Garbage reply down (fate, t) = unchanged held.stopped fate held _ reply after t
stays_stopped held after (calls.Settle front names) reply down (fate, t) = settlement_when_stopped held.stopped fate held front names reply after down t
stays_stopped held after (calls.State p) reply down (fate, t) = unchanged held.stopped fate held _ reply after t
stays_stopped held after calls.Bye reply down (fate, t) = t.2
stays_stopped held after (calls.Bad n) reply down (fate, t) = t.2
stays_stopped held after calls.Unread reply down (fate, t) = t.2
