-- The reports of lawful histories behind settlements: accepted in order, they stay a front of what the current history hands over.
use Rattle.std.specs.Prelude.{◌≡◌, ◌≢◌, ◌⊎◌, ℕ, ◌+◌, false, List, [], ◌∷◌, ◌++◌, All, Contains, ⊤}
use Rattle.report_line.specs.declared.call.Call.{Call}
use Rattle.report_line.specs.declared.call.Call.TheVariants.{Report}
use Rattle.report_line.specs.declared.marked.MarkedReport.{MarkedReport}
use Rattle.report_line.specs.declared.reply.Reply.{Reply}
use Rattle.report_line.specs.declared.reply.Reply.TheVariants.{Accepted}
use Rattle.report_line.specs.declared.report.NumberedReport.{NumberedReport}
use Rattle.report_line.specs.declared.report.Report.{Report as AnyReport}
use Rattle.report_line.specs.declared.report.Report.TheVariants.{Numbered}
use Rattle.report_line.specs.histories.History.{Name, History}
use Rattle.chains.specs.declared.position.Position.{Position}
use Rattle.chains.specs.Greatest.{IsConsistentCut}
use Rattle.chains.specs.Held.{Held, counting, with_report}
use Rattle.chains.specs.Settled.{limits_of, settled_by, settled}
use Rattle.chains.specs.Turns.{IsTurn}
use Rattle.law_admission.specs.Accepting.{IsRefusalForRoom}
use Rattle.law_admission.specs.HandedOver.{handed_over, IsNext, IsTargetBorn, HasLine}
use Rattle.law_lines.specs.Places.{IsPremise}
use Rattle.law_histories.specs.Kept.{Cut, kept}
use Rattle.law_lines.specs.Agreeing.{HasEventsOf}
use Rattle.law_lines.specs.Runs.{Run, Made, current, accepted, epoch, IsMarkedReport, IsObeyed}
use Rattle.law_turns.specs.Traces.{Trace, Stepped, Turned, AreTurns, Adds, Extends, IsRightStep, ProcessesObey}
use Rattle.law_turns.specs.Obeyed.{IsHeldAfter}

-- ---- a settlement

-- What is kept of a history hands over just those of its reports that are at or before the line, in the same order.
abbrev pub KeptHandsOverTheSettled : Type 0
KeptHandsOverTheSettled =
    (root : Name) (h : History) (list : List AnyReport) (failed : List ℕ) (line : List Position) (cut : Cut)
    → IsPremise root h list → IsConsistentCut list failed line → HasEventsOf root h list line cut
    → handed_over root (kept cut h) ≡ settled_by (limits_of list line) (handed_over root h)

-- So where the accepted list is a front of what the history hands over, the settled list is all that is handed over of what is
-- kept: what was not accepted yet is undone. (Where nothing is accepted, not even BEGIN is settled.)
abbrev pub SettlementKeepsOrder : Type 0
SettlementKeepsOrder =
    (root : Name) (h : History) (list rest : List AnyReport) (failed : List ℕ) (line : List Position) (cut : Cut)
    → IsPremise root h list → IsConsistentCut list failed line → HasEventsOf root h list line cut → list ≢ []
    → handed_over root h ≡ list ++ rest → handed_over root (kept cut h) ≡ settled list line

-- ---- a trace

-- The accepted list is a front of what the current history hands over.
abbrev pub IsInOrder : Name → Run → Type 0
IsInOrder root run = (rest : List AnyReport) × (handed_over root (current run) ≡ accepted run ++ rest)

-- A report that is accepted comes next of the current history. Of every other turn nothing is asked.
abbrev pub ComesNext : Name → Run → Call → Reply → Type 0
ComesNext root run (Report m) (Accepted front) = IsNext root (current run) (accepted run) m.report
ComesNext root run call reply = ⊤

-- Each report that the trace accepts comes next, over the run that there was by then.
abbrev pub AllComeNext : Name → Run → Trace → Type 0
AllComeNext root run [] = ⊤
AllComeNext root run (Stepped e s ∷ trace) = AllComeNext root (Made e s ∷ run) trace
AllComeNext root run (Turned call reply ∷ trace) =
    ComesNext root run call reply × ((between : Run) → Adds root run call reply between → AllComeNext root between trace)

-- The order is kept by each step, each report that comes next, each settlement and every other turn.
abbrev pub OrderIsKept : Type 0
OrderIsKept =
    (root : Name) (run later : Run) (held after : Held) (trace : Trace) → IsObeyed root run → IsHeldAfter run held → AreTurns held trace after
    → ProcessesObey root run trace → AllComeNext root run trace → Extends root run trace later → IsInOrder root run → IsInOrder root later

-- Each report that is still to be handed over is that of a step with the present epoch as its mark.
abbrev pub IsAllOfNow : Name → Run → Type 0
IsAllOfNow root run =
    (rest : List AnyReport) (r : NumberedReport) → handed_over root (current run) ≡ accepted run ++ rest → Contains rest (Numbered r)
    → IsMarkedReport root run (epoch run) (Numbered r)

-- In order that is kept, too: what a process did before it returned is accepted by then, or undone.
abbrev pub AllStaysOfNow : Type 0
AllStaysOfNow =
    (root : Name) (run later : Run) (held after : Held) (trace : Trace) → IsObeyed root run → IsHeldAfter run held → AreTurns held trace after
    → ProcessesObey root run trace → AllComeNext root run trace → Extends root run trace later → IsInOrder root run → IsAllOfNow root run
    → IsAllOfNow root later

-- Each step of the trace is right, over the run that there was by then. Of its reports nothing is asked.
abbrev pub StepsAreRight : Name → Run → Trace → Type 0
StepsAreRight root run [] = ⊤
StepsAreRight root run (Stepped e s ∷ trace) = IsRightStep root run e s × StepsAreRight root (Made e s ∷ run) trace
StepsAreRight root run (Turned call reply ∷ trace) = (between : Run) → Adds root run call reply between → StepsAreRight root between trace

-- Processes whose steps are right, and whose accepted reports come next, obey: what comes next is with its mark the report of a step.
abbrev pub InOrderIsObeyed : Type 0
InOrderIsObeyed =
    (root : Name) (run : Run) (held after : Held) (trace : Trace) → IsObeyed root run → IsHeldAfter run held → AreTurns held trace after
    → StepsAreRight root run trace → AllComeNext root run trace → IsInOrder root run → IsAllOfNow root run → ProcessesObey root run trace

-- So from nothing on all of this holds at once.
abbrev pub InOrderFromNothing : Type 0
InOrderFromNothing =
    (root : Name) (later : Run) (after : Held) (trace : Trace) → AreTurns (counting []) trace after → StepsAreRight root [] trace
    → AllComeNext root [] trace → Extends root [] trace later → ProcessesObey root [] trace × IsInOrder root later × IsAllOfNow root later

-- ---- the next turn

-- Behind any trace the next report of the current history, with the present epoch, is accepted, or there is no room or no memory for
-- it, or the device fails: where what the current history hands over has lines, and the target of a retirement is born by then.
abbrev pub NextIsAccepted : Type 0
NextIsAccepted =
    (root : Name) (run later : Run) (held after next : Held) (trace : Trace) (m : MarkedReport) (reply : Reply)
    → IsObeyed root run → IsHeldAfter run held → AreTurns held trace after → ProcessesObey root run trace → Extends root run trace later
    → All HasLine (handed_over root (current later)) → IsNext root (current later) after.accepted m.report
    → IsTargetBorn root (current later) m.report → m.epoch ≡ after.epoch → after.stopped ≡ false → IsTurn after (Report m) reply next
    → ((reply ≡ Accepted (after.front + 1)) × (next ≡ with_report after m)) ⊎ IsRefusalForRoom after m.report reply

-- A report with the mark of another epoch is set aside: it changes nothing of what is held, and adds nothing to the run.
abbrev pub OtherEpochsAreSetAside : Type 0
OtherEpochsAreSetAside =
    (root : Name) (run later : Run) (held next : Held) (m : MarkedReport) (reply : Reply) → m.epoch ≢ held.epoch
    → IsTurn held (Report m) reply next → Adds root run (Report m) reply later → (next ≡ held) × (later ≡ run)
