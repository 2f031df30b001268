-- Steps, accepted reports and settlements in the order in which they happened; the headline after them.
use Rattle.std.specs.Prelude.{◌≡◌, ℕ, suc, ◌<◌, if◌then◌else◌, ◌==◌, List, [], ◌∷◌, ◌++◌, Some}
use Rattle.report_line.specs.declared.report.NumberedReport.{NumberedReport}
use Rattle.report_line.specs.declared.report.Report.{Report}
use Rattle.report_line.specs.declared.report.Report.TheVariants.{Begin, Numbered}
use Rattle.report_line.specs.declared.step.Step.{Step}
use Rattle.report_line.specs.histories.History.{Name, History, Event}
use Rattle.report_line.specs.histories.StepReports.{report_of}
use Rattle.law_histories.specs.Rules.{IsNewest, Obeys}
use Rattle.chains.specs.declared.position.Position.{Position}
use Rattle.chains.specs.Folded.{IsFit}
use Rattle.chains.specs.Greatest.{IsGreatestCut}
use Rattle.law_histories.specs.Kept.{Cut, kept}
use Rattle.law_histories.specs.Settlements.{Log, Made as LogMade, Settles as LogSettles, current as current_in, IsObeyed as IsObeyedLog}
use Rattle.law_lines.specs.Places.{IsPremise}
use Rattle.law_lines.specs.Headline.{IsGreatestClosedCut}
use Rattle.law_lines.specs.Settled.{settled}
use Rattle.law_lines.specs.Agreeing.{HasEventsOf}

-- A step, with the epoch to which its process had returned when it made it (0 before any settlement; a child begins in its
-- parent's). Or a report that was accepted, with its mark. Or a settlement on a line, for these failed processes; the cut
-- tells which events of the current history are at or before the line.
pub data Entry : Type 0 where
  Made : (epoch : ℕ) → (step : Step) → Entry
  Accepts : (mark : ℕ) → (report : Report) → Entry
  Settles : (failed : List ℕ) → (line : List Position) → (cut : Cut) → Entry

-- All that happened, the newest first.
abbrev pub Run : Type 0
Run = List Entry

-- The present epoch: how many settlements there were.
unfoldable pub epoch : Run → ℕ
epoch [] = 0
epoch (Made e s ∷ run) = epoch run
epoch (Accepts mark r ∷ run) = epoch run
epoch (Settles failed line cut ∷ run) = suc (epoch run)

-- The current history: what the last settlement kept, and the steps since whose process had by then returned to its position,
-- or was born of a fork that is itself among these steps.
unfoldable pub current : Run → History
current [] = []
current (Made e s ∷ run) = if e == epoch run then s ∷ current run else current run
current (Accepts mark r ∷ run) = current run
current (Settles failed line cut ∷ run) = kept cut (current run)

-- The accepted list: what the last settlement kept, and the reports accepted since.
unfoldable pub accepted : Run → List Report
accepted [] = []
accepted (Made e s ∷ run) = accepted run
accepted (Accepts mark r ∷ run) = accepted run ++ r ∷ []
accepted (Settles failed line cut ∷ run) = settled (accepted run) line

-- The report is that of a step, and carries the epoch to which its process had returned when it made the step. Of the report
-- of a step that was left behind, only the mark is known.
pub data IsMarkedReport (root : Name) : Run → ℕ → Report → Type 0 where
  of_current : {run : Run} {s : Step} {r : Report} → report_of root (current run) s ≡ Some r → IsMarkedReport root (Made (epoch run) s ∷ run) (epoch run) r
  of_left_behind : {run : Run} {e : ℕ} {s : Step} {r : Report} → e < epoch run → IsMarkedReport root (Made e s ∷ run) e r
  earlier : {run : Run} {x : Entry} {mark : ℕ} {r : Report} → IsMarkedReport root run mark r → IsMarkedReport root (x ∷ run) mark r

-- The processes obey the rules, and reports and settlements are accepted as they are to be.
pub data IsObeyed (root : Name) : Run → Type 0 where
  nothing : IsObeyed root []
  -- A step of a process that has returned is made from the process's newest event in the current history, which right after
  -- a settlement is its position; what it receives was sent, and what it absorbs was retired, by an event of the current
  -- history: not by an undone step, nor by one made after the settlement and before its process returned.
  made : {run : Run} {s : Step} {before : Event} → IsObeyed root run → IsNewest root (current run) s.process before → Obeys root (current run) before s s.step_kind
      → IsObeyed root (Made (epoch run) s ∷ run)
  -- of the steps of the others nothing is asked
  left_behind : {run : Run} {e : ℕ} {s : Step} → IsObeyed root run → e < epoch run → IsObeyed root (Made e s ∷ run)
  -- BEGIN names the root, and stands first
  begins : {run : Run} → IsObeyed root run → accepted run ≡ [] → IsObeyed root (Accepts 0 (Begin root) ∷ run)
  -- a report of the present epoch that the tests of admission let pass
  reports : {run : Run} {r : NumberedReport} → IsObeyed root run → IsMarkedReport root run (epoch run) (Numbered r) → IsFit (accepted run) (Numbered r)
      → IsObeyed root (Accepts (epoch run) (Numbered r) ∷ run)
  -- a settlement is on the line for the failed processes, and undoes what is behind it
  settles : {run : Run} {failed : List ℕ} {line : List Position} {cut : Cut} → IsObeyed root run → IsGreatestCut (accepted run) failed line
      → HasEventsOf root (current run) (accepted run) line cut → IsObeyed root (Settles failed line cut ∷ run)

-- After any steps, reports and settlements the accepted list is folded, the current history is lawful, and they agree.
abbrev pub CurrentAgrees : Type 0
CurrentAgrees = (root : Name) (run : Run) → IsObeyed root run → IsPremise root (current run) (accepted run)

-- The headline after any steps, reports and settlements: the greatest stamp-consistent cut of the accepted list is the greatest
-- closed cut of the current history.
abbrev pub HeadlineHolds : Type 0
HeadlineHolds =
    (root : Name) (run : Run) (failed : List ℕ) (line : List Position) → IsObeyed root run → IsGreatestCut (accepted run) failed line
    → IsGreatestClosedCut root (current run) (accepted run) failed line

-- A settlement is possible on each line.
abbrev pub SettlementIsPossible : Type 0
SettlementIsPossible =
    (root : Name) (run : Run) (failed : List ℕ) (line : List Position) → IsObeyed root run → IsGreatestCut (accepted run) failed line
    → (cut : Cut) × IsObeyed root (Settles failed line cut ∷ run)

-- the steps and settlements of a run, without its reports
unfoldable pub log_of : Run → Log
log_of [] = []
log_of (Made e s ∷ run) = LogMade e s ∷ log_of run
log_of (Accepts mark r ∷ run) = log_of run
log_of (Settles failed line cut ∷ run) = LogSettles cut ∷ log_of run

-- An obeyed run without its reports is an obeyed log, with the same current history.
abbrev pub RunsAreLogs : Type 0
RunsAreLogs = (root : Name) (run : Run) → IsObeyed root run → IsObeyedLog root (log_of run) × (current_in (log_of run) ≡ current run)
