-- The reports of a lawful history are accepted.
use Rattle.std.specs.Prelude.{◌≡◌, ◌↔◌, ◌++◌, All, false, List}
use Rattle.report_line.specs.declared.report.Report.{Report}
use Rattle.report_line.specs.declared.call.Call.TheVariants as calls
use Rattle.report_line.specs.declared.reply.Reply.{Reply}
use Rattle.report_line.specs.histories.History.{Name, History}
use Rattle.chains.specs.Held.{Held, present}
use Rattle.chains.specs.Admission.{IsAdmission, FitsOrNot}
use Rattle.chains.specs.Turns.{Fate, IsTurnWith}
use Rattle.law_admission.specs.HandedOver.{handed_over, IsNext, IsTargetBorn, IsReportable}
use Rattle.law_admission.specs.Accepting.{IsRoomTurn, AreTurns, AreAcceptedUpToRefusal}

-- No test of admission but those for room applies to the next report over those before it, with the present epoch.
abbrev pub OnlyRoomIsTested : Type 0
OnlyRoomIsTested =
    (root : Name) (h : History) (held : Held) (r : Report) (answer : Reply) → IsReportable root h → IsNext root h held.accepted r
    → IsTargetBorn root h r → IsAdmission held (present held r) answer ↔ FitsOrNot held r answer

-- So in a turn with any fate the next report is accepted, or there is no room or no memory for it, or the device fails.
abbrev pub TurnsRefuseForRoomAlone : Type 0
TurnsRefuseForRoomAlone =
    (root : Name) (h : History) (held after : Held) (r : Report) (reply : Reply) (fate : Fate)
    → IsReportable root h → IsNext root h held.accepted r → IsTargetBorn root h r → held.stopped ≡ false
    → IsTurnWith fate held (calls.Report (present held r)) reply after → IsRoomTurn fate held r reply after

-- And so BEGIN and all reports, or those that come next behind the accepted ones, handed over one by one in order, are accepted up
-- to the first refusal, which is for room.
abbrev pub AllAreAcceptedInOrder : Type 0
AllAreAcceptedInOrder =
    (root : Name) (h : History) (held after : Held) (reports rest : List Report) (replies : List Reply)
    → IsReportable root h → held.stopped ≡ false → handed_over root h ≡ held.accepted ++ (reports ++ rest)
    → All (IsTargetBorn root h) reports → AreTurns held reports replies after → AreAcceptedUpToRefusal held reports replies after
