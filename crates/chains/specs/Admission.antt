-- The reply to a report over what is held, where memory suffices.
use Rattle.std.specs.Prelude.{◌≡◌, ◌≢◌, ◌⊎◌, ℕ, ◌+◌, ◌≤◌, [], Option, Some, None, length, slice_get, ⊤}
use Rattle.std.specs.Fmt.{decimal}
use Rattle.id_tree.specs.IdTree.{IdTree}
use Rattle.id_tree.specs.Split.{IsSplit}
use Rattle.id_tree.specs.Spelling.{spelling}
use Rattle.event_tree.specs.EventTree.{EventTree}
use Rattle.event_tree.specs.Values.{IsAtOrBelow, ExceedsOn}
use Rattle.report_line.specs.declared.code.Code.TheVariants.{NothingBegun, OtherRoot, UnknownProcess, Ended, WrongNumber, NotWaiting, WrongId, NotGrown, NameTaken, WrongParts, WrongTarget, NotJoined, Full, OtherEpoch}
use Rattle.report_line.specs.declared.report.ReportKind.{ReportKind}
use Rattle.report_line.specs.declared.report.ReportKind.TheVariants.{Fork, Retire, Absorb}
use Rattle.report_line.specs.declared.report.NumberedReport.{NumberedReport}
use Rattle.report_line.specs.declared.report.Report.{Report}
use Rattle.report_line.specs.declared.report.Report.TheVariants.{Begin, Numbered}
use Rattle.report_line.specs.declared.marked.MarkedReport.{MarkedReport}
use Rattle.report_line.specs.declared.reply.Reply.{Reply}
use Rattle.report_line.specs.declared.reply.Reply.TheVariants.{Accepted, Old, No, Fail, Settled}
use Rattle.report_line.specs.declared.reply.Outcome.TheVariants.{Before, Unknown}
use Rattle.chains.specs.Processes.{Name, newborn, known, IsKnown, last_report, last_epoch, next_number, last_events, registered_id, expected_id, target_of, Waits}
use Rattle.chains.specs.Held.{Held, with_report, with_stop}

-- how many lines are accepted at most
abbrev pub report_limit : ℕ
report_limit = 16384

-- One test: where it applies, the answer is this reply; elsewhere the later tests decide.
abbrev pub Decides : Type 0 → Reply → Reply → Type 0 → Type 0
Decides applies reply answer later = (applies × (answer ≡ reply)) ⊎ ((¬ applies) × later)

-- how many processes are known at most
abbrev pub process_limit : ℕ
process_limit = 1024

-- the last tests of all: whether there is room for one more report, and for one more process where one is born
abbrev pub FitsOrNot : Held → Report → Reply → Type 0
FitsOrNot held r answer =
    Decides (report_limit ≤ held.front) (No Full None (Some (decimal report_limit))) answer
    (Decides ((newborn r ≢ None) × (process_limit ≤ length (known held.accepted))) (No Full None (Some (decimal process_limit))) answer
    (answer ≡ Accepted (held.front + 1)))

-- the events of a report are at or above the last ones, and greater at some point of the registered id
abbrev pub AreGrown : EventTree → IdTree → EventTree → Type 0
AreGrown last id events = IsAtOrBelow last events × ExceedsOn id events last

-- BEGIN, where this process is the root, if one is; what begins is of the present epoch
abbrev pub IsBeginReply : Option Name → Held → ℕ → Name → Reply → Type 0
IsBeginReply None held epoch p answer =
    Decides (epoch ≢ held.epoch) (No OtherEpoch (Some p) (Some (decimal held.epoch))) answer (FitsOrNot held (Begin p) answer)
IsBeginReply (Some root) held epoch p answer =
    Decides (p ≢ root) (No OtherRoot (Some root) None) answer (answer ≡ Old held.front)

-- the tests of the report's action, which stands beside the report for the cases: a child's name is new, and the two ids are
-- parts of the registered one; the target of a retirement is another known process; an absorb has the events of the
-- retirement
abbrev pub IsActionReply : Held → NumberedReport → ReportKind → Reply → Type 0
IsActionReply held r (Fork f) answer =
    Decides (IsKnown held.accepted f.child) (No NameTaken (Some f.child) None) answer
    (Decides (¬ IsSplit (registered_id r.process held.accepted) f.kept f.given) (No WrongParts (Some r.process) (Some (spelling (registered_id r.process held.accepted)))) answer
    (FitsOrNot held (Numbered r) answer))
IsActionReply held r (Retire target) answer =
    Decides ((target ≡ r.process) ⊎ (¬ IsKnown held.accepted target)) (No WrongTarget (Some target) None) answer
    (FitsOrNot held (Numbered r) answer)
IsActionReply held r (Absorb retired) answer =
    Decides (¬ IsAtOrBelow (last_events retired held.accepted) r.stamp.events) (No NotJoined (Some retired) None) answer
    (FitsOrNot held (Numbered r) answer)
IsActionReply held r _ answer = FitsOrNot held (Numbered r) answer

-- the tests of the stamp, and then those of the action
abbrev pub IsStampReply : Held → NumberedReport → ReportKind → Reply → Type 0
IsStampReply held r a answer =
    Decides (r.stamp.id ≢ expected_id held.accepted r.process a) (No WrongId (Some r.process) (Some (spelling (expected_id held.accepted r.process a)))) answer
    (Decides (¬ AreGrown (last_events r.process held.accepted) (registered_id r.process held.accepted) r.stamp.events) (No NotGrown (Some r.process) None) answer
    (IsActionReply held r a answer))

-- whether the retirement waits that an absorb is for, and then the later tests
abbrev pub IsWaitingReply : Held → NumberedReport → ReportKind → Reply → Type 0
IsWaitingReply held r (Absorb retired) answer =
    Decides (¬ Waits held.accepted retired r.process) (No NotWaiting (Some retired) None) answer
    (IsStampReply held r (Absorb retired) answer)
IsWaitingReply held r a answer = IsStampReply held r a answer

-- a process that retired into this target, if it did, reports no more; else the number is the next one
abbrev pub IsStandingReply : Option Name → Held → NumberedReport → Reply → Type 0
IsStandingReply (Some target) held r answer = answer ≡ No Ended (Some r.process) (Some target)
IsStandingReply None held r answer =
    Decides (r.number ≢ next_number r.process held.accepted) (No WrongNumber (Some r.process) (Some (decimal (next_number r.process held.accepted)))) answer
    (IsWaitingReply held r r.action answer)

-- the report is the last one of its process once more, with the epoch that it was accepted with
abbrev pub IsRepeated : Held → ℕ → NumberedReport → Type 0
IsRepeated held epoch r = (last_report r.process held.accepted ≡ Some (Numbered r)) × (last_epoch r.process held.accepted held.epochs ≡ Some epoch)

-- a report of a known process that is no repeat: whether its epoch is the present one, and then the later tests
abbrev pub IsEpochReply : Held → ℕ → NumberedReport → Reply → Type 0
IsEpochReply held epoch r answer =
    Decides (epoch ≢ held.epoch) (No OtherEpoch (Some r.process) (Some (decimal held.epoch))) answer
    (IsStandingReply (target_of r.process held.accepted) held r answer)

-- a report of a known process: whether it is the last one once more, and then the later tests
abbrev pub IsNumberedReply : Held → ℕ → NumberedReport → Reply → Type 0
IsNumberedReply held epoch r answer =
    Decides (IsRepeated held epoch r) (Old held.front) answer
    (IsEpochReply held epoch r answer)

-- The reply to a report of this epoch; the line of a BEGIN has no mark, and is of epoch 0.
abbrev pub IsReportReply : Held → ℕ → Report → Reply → Type 0
IsReportReply held epoch (Begin p) answer = IsBeginReply (slice_get (known held.accepted) 0) held epoch p answer
IsReportReply held epoch (Numbered r) answer =
    Decides (held.accepted ≡ []) (No NothingBegun None None) answer
    (Decides (¬ IsKnown held.accepted r.process) (No UnknownProcess (Some r.process) None) answer
    (IsNumberedReply held epoch r answer))

-- The reply to a report: the tests stand in their order, and the first that applies decides.
abbrev pub IsAdmission : Held → MarkedReport → Reply → Type 0
IsAdmission held m answer = IsReportReply held m.epoch m.report answer

-- all tests let the report pass
abbrev pub Passes : Held → MarkedReport → Type 0
Passes held m = IsAdmission held m (Accepted (held.front + 1))

-- what is held after a reply to the report: the report where it is accepted; where the device failed the store is stopped
abbrev pub held_after : Held → MarkedReport → Reply → Held
held_after held m (Accepted front) = with_report held m
held_after held m (Fail Before) = with_stop held
held_after held m (Fail Unknown) = with_stop held
held_after held m _ = held

-- the answers that take memory: to keep the report, to fold what a line keeps, or to make the value of a refusal
abbrev pub TakesMemory : Reply → Type 0
TakesMemory (Accepted front) = ⊤
TakesMemory (Settled epoch front) = ⊤
TakesMemory (No code name (Some value)) = ⊤
TakesMemory _ = ⊥
