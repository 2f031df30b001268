-- One turn: the reply to a call over what is held, and what is held then.
use Rattle.std.specs.Prelude.{◌≡◌, ◌≢◌, ◌⊎◌, ℕ, ◌+◌, ◌≤◌, Bool, true, false, codes, List, [], All, Option, Some, None, length, ⊤}
use Rattle.std.specs.Fmt.{decimal}
use Rattle.id_tree.specs.Spelling.{spelling}
use Rattle.report_line.specs.declared.code.Code.TheVariants.{NothingBegun, UnknownProcess, OtherFront, Full, OutOfMemory}
use Rattle.report_line.specs.declared.report.Report.{Report as AnyReport}
use Rattle.report_line.specs.declared.marked.MarkedReport.{MarkedReport}
use Rattle.report_line.specs.declared.call.Call.{Call}
use Rattle.report_line.specs.declared.call.Call.TheVariants.{Report, Line, Garbage, Settle, State, Bye, Bad, Unread}
use Rattle.report_line.specs.declared.reply.Outcome.TheVariants.{Before, Unknown, Stopped}
use Rattle.report_line.specs.declared.reply.Reply.{Reply}
use Rattle.report_line.specs.declared.reply.Reply.TheVariants as replies
use Rattle.chains.specs.Processes.{Name, IsKnown, reports_of, registered_id, target_of}
use Rattle.chains.specs.Elements.{elements_of}
use Rattle.chains.specs.Held.{Held, with_stop}
use Rattle.chains.specs.Admission.{Decides, IsAdmission, Passes, held_after, TakesMemory, report_limit}
use Rattle.chains.specs.Failures.{IsFirstUnknown}
use Rattle.chains.specs.Settled.{IsSettled}

-- What may happen in a turn: nothing amiss; a growth that is refused; or, once all tests let a report or a settlement pass, a device
-- that fails, before its record can be in the file, or where nobody knows whether it is.
pub data Fate : Type 0 where
  fine : Fate
  memory : Fate
  before : Fate
  unknown : Fate

-- the fates where no device fails
abbrev pub IsDeviceFree : Fate → Type 0
IsDeviceFree fine = ⊤
IsDeviceFree memory = ⊤
IsDeviceFree before = ⊥
IsDeviceFree unknown = ⊥

abbrev pub no_memory : Reply
no_memory = replies.No OutOfMemory None None

-- The reply to a question for a line: refused, or taken at this front.
abbrev pub IsLineReply : Held → List Name → Reply → Type 0
IsLineReply held names reply =
    Decides (held.accepted ≡ []) (replies.No NothingBegun None None) reply
    (((name : Name) × IsFirstUnknown held.accepted names name × (reply ≡ replies.No UnknownProcess (Some name) None))
    ⊎ (All (IsKnown held.accepted) names × (reply ≡ replies.Taken held.front)))

-- The reply to the question for the line with every process failed, which names none.
abbrev pub IsGarbageReply : Held → Reply → Type 0
IsGarbageReply held reply =
    Decides (held.accepted ≡ []) (replies.No NothingBegun None None) reply (reply ≡ replies.Taken held.front)

-- what is told of a process that lives, or that retired into this target
abbrev pub state_by : Option Name → List AnyReport → Name → Reply
state_by None accepted p = replies.State p (reports_of p accepted) (length (elements_of p accepted)) true (spelling (registered_id p accepted))
state_by (Some target) accepted p = replies.State p (reports_of p accepted) (length (elements_of p accepted)) false (codes "0")

-- the reply to a question for the state of a process
abbrev pub IsStateReply : List AnyReport → Name → Reply → Type 0
IsStateReply accepted p reply =
    Decides (accepted ≡ []) (replies.No NothingBegun None None) reply
    (Decides (¬ IsKnown accepted p) (replies.No UnknownProcess (Some p) None) reply
    (reply ≡ state_by (target_of p accepted) accepted p))

-- The reply to a report where the store is not stopped: that of admission, or for want of memory in one that takes memory;
-- where the device fails, the report is not accepted, and the store is stopped.
abbrev pub IsReportTurn : Fate → Held → MarkedReport → Reply → Held → Type 0
IsReportTurn fine held r reply after = IsAdmission held r reply × (after ≡ held_after held r reply)
IsReportTurn memory held r reply after =
    (answer : Reply) × IsAdmission held r answer × TakesMemory answer × (reply ≡ no_memory) × (after ≡ held)
IsReportTurn before held r reply after = Passes held r × (reply ≡ replies.Fail Before) × (after ≡ with_stop held)
IsReportTurn unknown held r reply after = Passes held r × (reply ≡ replies.Fail Unknown) × (after ≡ with_stop held)

-- the reply to a call that changes nothing, with which nothing is amiss
abbrev pub IsPlainTurn : Fate → Held → (Reply → Type 0) → Reply → Held → Type 0
IsPlainTurn fate held Answers reply after = (fate ≡ fine) × Answers reply × (after ≡ held)

-- The same of a question, which a stopped store refuses; whether it is stopped stands in front for the cases.
abbrev pub IsQuestionTurn : Bool → Fate → Held → (Reply → Type 0) → Reply → Held → Type 0
IsQuestionTurn true fate held Answers reply after = IsPlainTurn fate held (λ x. x ≡ replies.Fail Stopped) reply after
IsQuestionTurn false fate held Answers reply after = IsPlainTurn fate held Answers reply after

-- The reply to a settlement on the line of these failed processes, where memory suffices: they are known, the front is the present one,
-- and there is room for one more line.
abbrev pub IsSettling : Held → ℕ → List Name → Reply → Type 0
IsSettling held front names answer =
    Decides (held.accepted ≡ []) (replies.No NothingBegun None None) answer
    (((name : Name) × IsFirstUnknown held.accepted names name × (answer ≡ replies.No UnknownProcess (Some name) None))
    ⊎ (All (IsKnown held.accepted) names
    × Decides (front ≢ held.front) (replies.No OtherFront None (Some (decimal held.front))) answer
    (Decides (report_limit ≤ held.front) (replies.No Full None (Some (decimal report_limit))) answer
    (answer ≡ replies.Settled (held.epoch + 1) (held.front + 1)))))

-- all tests let the settlement pass
abbrev pub PassesSettle : Held → ℕ → List Name → Type 0
PassesSettle held front names = IsSettling held front names (replies.Settled (held.epoch + 1) (held.front + 1))

-- what is held after a reply to a settlement: all returned to the line where it is accepted
abbrev pub LeavesSettled : Reply → Held → List Name → Held → Type 0
LeavesSettled (replies.Settled epoch front) held names after = IsSettled held names after
LeavesSettled _ held names after = after ≡ held

-- The reply to a settlement where the store is not stopped: that of the tests, or for want of memory in one that takes memory; where
-- the device fails, nobody returns, and the store is stopped.
abbrev pub IsSettleTurn : Fate → Held → ℕ → List Name → Reply → Held → Type 0
IsSettleTurn fine held front names reply after = IsSettling held front names reply × LeavesSettled reply held names after
IsSettleTurn memory held front names reply after =
    (answer : Reply) × IsSettling held front names answer × TakesMemory answer × (reply ≡ no_memory) × (after ≡ held)
IsSettleTurn before held front names reply after = PassesSettle held front names × (reply ≡ replies.Fail Before) × (after ≡ with_stop held)
IsSettleTurn unknown held front names reply after = PassesSettle held front names × (reply ≡ replies.Fail Unknown) × (after ≡ with_stop held)

-- the reply to a settlement, which a stopped store refuses
abbrev pub IsSettleAnswered : Bool → Fate → Held → ℕ → List Name → Reply → Held → Type 0
IsSettleAnswered true fate held front names reply after = IsPlainTurn fate held (λ x. x ≡ replies.Fail Stopped) reply after
IsSettleAnswered false fate held front names reply after = IsSettleTurn fate held front names reply after

-- the reply to a report, which a stopped store refuses
abbrev pub IsReported : Bool → Fate → Held → MarkedReport → Reply → Held → Type 0
IsReported true fate held r reply after = IsPlainTurn fate held (λ x. x ≡ replies.Fail Stopped) reply after
IsReported false fate held r reply after = IsReportTurn fate held r reply after

-- from what is held, with this fate, the call is replied to so, and this is held then
abbrev pub IsTurnWith : Fate → Held → Call → Reply → Held → Type 0
IsTurnWith fate held (Report r) reply after = IsReported held.stopped fate held r reply after
IsTurnWith fate held (Line names) reply after = IsQuestionTurn held.stopped fate held (IsLineReply held names) reply after
IsTurnWith fate held Garbage reply after = IsQuestionTurn held.stopped fate held (IsGarbageReply held) reply after
IsTurnWith fate held (Settle front names) reply after = IsSettleAnswered held.stopped fate held front names reply after
IsTurnWith fate held (State p) reply after = IsQuestionTurn held.stopped fate held (IsStateReply held.accepted p) reply after
IsTurnWith fate held Bye reply after = IsPlainTurn fate held (λ x. x ≡ replies.Bye) reply after
IsTurnWith fate held (Bad n) reply after = IsPlainTurn fate held (λ x. x ≡ replies.Bad n) reply after
IsTurnWith fate held Unread reply after = IsPlainTurn fate held (λ x. x ≡ no_memory) reply after

abbrev pub IsTurn : Held → Call → Reply → Held → Type 0
IsTurn held call reply after = (fate : Fate) × IsTurnWith fate held call reply after
