-- The reports of lawful histories, each in a turn of a desk.
use Rattle.std.specs.Prelude.{◌≡◌, ◌≢◌, ◌⊎◌, ℕ, ◌+◌, ◌==◌, if◌then◌else◌, false, List, [], ◌∷◌, ◌++◌, All, map, ⊤}
use Rattle.report_line.specs.declared.report.Report.{Report}
use Rattle.report_line.specs.declared.marked.MarkedReport.{MarkedReport}
use Rattle.report_line.specs.declared.call.Call.{Call}
use Rattle.report_line.specs.declared.call.Call.TheVariants as calls
use Rattle.report_line.specs.declared.reply.Reply.{Reply}
use Rattle.report_line.specs.declared.reply.Reply.TheVariants.{Accepted}
use Rattle.report_line.specs.histories.History.{Name, History}
use Rattle.chains.specs.Held.{Held, with_report}
use Rattle.law_admission.specs.HandedOver.{handed_over, IsNext, IsTargetBorn, IsReportable}
use Rattle.law_admission.specs.Accepting.{IsRefusalForRoom}
use Rattle.desk.specs.declared.turn.Turn.{Turn}

-- A turn of a report of the present epoch that comes next of a lawful history behind the accepted ones, over a store that is not
-- stopped: it is accepted, or there is no room or no memory for it, or the device failed. The target of a retirement has to be born;
-- of those that are accepted this is not asked, so what holds here holds behind settlements, which may undo a target's birth.
abbrev pub IsTurnOfHistories : Held → Call → Reply → Held → Type 0
IsTurnOfHistories held (calls.Report m) reply after =
    (root : Name) (h : History) → IsReportable root h → IsNext root h held.accepted m.report → IsTargetBorn root h m.report → m.epoch ≡ held.epoch
    → held.stopped ≡ false → ((reply ≡ Accepted (held.front + 1)) × (after ≡ with_report held m)) ⊎ IsRefusalForRoom held m.report reply
IsTurnOfHistories held _ reply after = ⊤

-- the reports among these that are of this epoch, in order
abbrev pub of_epoch : ℕ → List MarkedReport → List Report
of_epoch epoch [] = []
of_epoch epoch (m ∷ ms) = if m.epoch == epoch then m.report ∷ of_epoch epoch ms else of_epoch epoch ms

-- The reports of the present epoch are accepted with these replies, up to the first that is not, which is refused for room; what is
-- replied behind that is open. Those of other epochs change nothing.
abbrev pub AreAcceptedAmongOthers : Held → List MarkedReport → List Reply → Held → Type 0
AreAcceptedAmongOthers held [] [] after = after ≡ held
AreAcceptedAmongOthers held (m ∷ ms) (reply ∷ replies) after =
    ((m.epoch ≢ held.epoch) × AreAcceptedAmongOthers held ms replies after)
    ⊎ ((m.epoch ≡ held.epoch)
    × (((reply ≡ Accepted (held.front + 1)) × AreAcceptedAmongOthers (with_report held m) ms replies after) ⊎ IsRefusalForRoom held m.report reply))
AreAcceptedAmongOthers held _ _ after = ⊥

-- Where the turns since the opening are those of the reports that come next of a lawful history, in order and of the epoch of the
-- opening, with any reports of other epochs among them, they are accepted up to the first that is refused, which is for want of room
-- or of memory, or where the device failed.
abbrev pub AreTurnsOfHistories : Held → List Turn → Held → Type 0
AreTurnsOfHistories opening turns held =
    (root : Name) (h : History) (marked : List MarkedReport) (rest : List Report) → IsReportable root h
    → handed_over root h ≡ opening.accepted ++ (of_epoch opening.epoch marked ++ rest) → All (IsTargetBorn root h) (of_epoch opening.epoch marked)
    → map (λ t. t.call) turns ≡ map (λ m. calls.Report m) marked → AreAcceptedAmongOthers opening marked (map (λ t. t.receipt.reply) turns) held
