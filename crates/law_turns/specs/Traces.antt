-- Steps of processes and turns of calls, in the order in which they happened; and the run that they make.
use Rattle.std.specs.Prelude.{◌≡◌, ◌⊎◌, ℕ, ◌<◌, List, [], ◌∷◌, ⊤}
use Rattle.report_line.specs.declared.call.Call.{Call}
use Rattle.report_line.specs.declared.call.Call.TheVariants.{Report, Settle}
use Rattle.report_line.specs.declared.reply.Reply.{Reply}
use Rattle.report_line.specs.declared.reply.Reply.TheVariants.{Accepted, Settled}
use Rattle.report_line.specs.declared.report.Report.TheVariants.{Begin}
use Rattle.report_line.specs.declared.step.Step.{Step}
use Rattle.report_line.specs.histories.History.{Name, Event}
use Rattle.law_histories.specs.Rules.{IsNewest, Obeys}
use Rattle.chains.specs.declared.position.Position.{Position}
use Rattle.chains.specs.Held.{Held}
use Rattle.chains.specs.Failures.{IsFailedSet}
use Rattle.chains.specs.Greatest.{IsGreatestCut}
use Rattle.chains.specs.Turns.{IsTurn}
use Rattle.law_histories.specs.Kept.{Cut}
use Rattle.law_lines.specs.Agreeing.{HasEventsOf}
use Rattle.law_lines.specs.Runs.{Run, Made, Accepts, Settles, epoch, current, accepted, IsMarkedReport}

-- A step of a process, with the epoch to which the process had returned when it made it; or a turn: a call and the reply to it.
pub data Happening : Type 0 where
  Stepped : (epoch : ℕ) → (step : Step) → Happening
  Turned : (call : Call) → (reply : Reply) → Happening

-- All that happened, the oldest first.
abbrev pub Trace : Type 0
Trace = List Happening

-- ---- what is said of the turns

-- what is seen of a trace where the calls are answered: its turns
abbrev pub turns_of : Trace → Trace
turns_of [] = []
turns_of (Stepped e s ∷ trace) = turns_of trace
turns_of (Turned call reply ∷ trace) = Turned call reply ∷ turns_of trace

-- From what is held the turns of the trace are turns, one after the other, and this is held then. Of its steps nothing is said.
abbrev pub AreTurns : Held → Trace → Held → Type 0
AreTurns held [] after = after ≡ held
AreTurns held (Stepped e s ∷ trace) after = AreTurns held trace after
AreTurns held (Turned call reply ∷ trace) after = (between : Held) × IsTurn held call reply between × AreTurns between trace after

-- ---- the run that a trace makes

-- A settlement on the line for the processes with these names. All of it is told by the names: their set, its line, and the cut
-- with the events of that line.
pub record IsSettledBy (root : Name) (run : Run) (names : List Name) (later : Run) : Type 0 where
  pub failed : List ℕ
  pub just_named : IsFailedSet (accepted run) names failed
  pub line : List Position
  pub greatest : IsGreatestCut (accepted run) failed line
  pub cut : Cut
  pub events : HasEventsOf root (current run) (accepted run) line cut
  pub settles : later ≡ Settles failed line cut ∷ run

-- What a turn adds to a run: an accepted report with its mark, a settlement on its line, and every other turn nothing.
abbrev pub Adds : Name → Run → Call → Reply → Run → Type 0
Adds root run (Report m) (Accepted front) later = later ≡ Accepts m.epoch m.report ∷ run
Adds root run (Settle front names) (Settled epoch now) later = IsSettledBy root run names later
Adds root run call reply later = later ≡ run

-- the run with what happened
abbrev pub Extends : Name → Run → Trace → Run → Type 0
Extends root run [] later = later ≡ run
Extends root run (Stepped e s ∷ trace) later = Extends root (Made e s ∷ run) trace later
Extends root run (Turned call reply ∷ trace) later = (between : Run) × Adds root run call reply between × Extends root between trace later

-- ---- what is asked of the processes

-- A step of a process that has returned obeys the rules over the current history; of the steps of the others nothing is asked.
abbrev pub IsRightStep : Name → Run → ℕ → Step → Type 0
IsRightStep root run e s =
    ((e ≡ epoch run) × ((before : Event) × IsNewest root (current run) s.process before × Obeys root (current run) before s s.step_kind)) ⊎ (e < epoch run)

-- A report that is accepted is BEGIN of the root, or with its mark the report of a step of the run. At every other turn, and so at a
-- settlement, nothing is asked.
abbrev pub IsRightReport : Name → Run → Call → Reply → Type 0
IsRightReport root run (Report m) (Accepted front) = (m.report ≡ Begin root) ⊎ IsMarkedReport root run m.epoch m.report
IsRightReport root run call reply = ⊤

-- The processes obey: each step and each accepted report of the trace is right, over the run that there was by then.
abbrev pub ProcessesObey : Name → Run → Trace → Type 0
ProcessesObey root run [] = ⊤
ProcessesObey root run (Stepped e s ∷ trace) = IsRightStep root run e s × ProcessesObey root (Made e s ∷ run) trace
ProcessesObey root run (Turned call reply ∷ trace) =
    IsRightReport root run call reply × ((between : Run) → Adds root run call reply between → ProcessesObey root between trace)
