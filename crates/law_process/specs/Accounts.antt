-- What processes did by the calls of the library, and the turns that the coordinator took meanwhile.
use Rattle.std.specs.Prelude.{◌≡◌, ℕ, ◌+◌, List, [], ◌∷◌, ◌++◌, Option, Some, None}
use Rattle.report_line.specs.declared.call.Call.{Call}
use Rattle.report_line.specs.declared.reply.Reply.{Reply}
use Rattle.report_line.specs.declared.report.ReportKind.TheVariants as actions
use Rattle.report_line.specs.declared.step.StepKind.{StepKind}
use Rattle.report_line.specs.declared.step.StepKind.TheVariants as step_kinds
use Rattle.report_line.specs.histories.History.{Name}
use Rattle.law_turns.specs.Traces.{Trace, Stepped, Turned}
use Rattle.process.specs.declared.process.Process.{Process}
use Rattle.process.specs.declared.handed.Message.{Message}
use Rattle.process.specs.declared.handed.Start.{Start}
use Rattle.process.specs.declared.handed.Retirement.{Retirement}
use Rattle.process.specs.Steps.{Works, Sends, HandsOver, Tells, Receives, Forks, Retires, Absorbs, Returns}

-- Which call was made: with what was handed in, and what it gave out. What is handed in names the call that gave it out, by how many
-- calls there were before that one; a message, also one that was handed over once more, the call that sent it.
pub data Act : Type 0 where
  Work : Act
  Send : (message : Message) → Act
  Again : (from : ℕ) → (message again : Message) → Act
  Receive : (from : ℕ) → (message : Message) → Act
  Check : (line : List ℕ) → Act
  Present : (line : List ℕ) → Act
  Fork : (start : Start) → (line : List ℕ) → Act
  Begin : (from : ℕ) → (start : Start) → Act
  Retire : (target : Name) → (retirement : Retirement) → (line : List ℕ) → Act
  Absorb : (from : ℕ) → (retirement : Retirement) → (line : List ℕ) → Act
  Return : (epoch : ℕ) → Act

-- A call of a process, with the process before and behind it. Who begins was nothing before, so that is left open.
pub record Doing : Type 0 where
  pub act : Act
  pub old : Process
  pub new : Process

abbrev pub made : Act → Process → Process → Doing
made act old new = record { act = act; old = old; new = new }

-- the process that began with what is handed over, or that ended with this
abbrev pub begun_by : Start → Process
begun_by start = record { name = start.child; epoch = start.epoch; reports = 0; stamp = start.stamp }

abbrev pub ended_with : Process → Retirement → Process
ended_with old retirement = record { name = old.name; epoch = old.epoch; reports = old.reports + 1; stamp = retirement.stamp }

-- what each call is said to do
abbrev pub DoesSo : Act → Process → Process → Type 0
DoesSo Work old new = Works old new
DoesSo (Send message) old new = Sends old new message
DoesSo (Again from message again) old new = HandsOver old message again × (new ≡ old)
DoesSo (Receive from message) old new = Receives old message new
DoesSo (Check line) old new = Tells old new actions.Check line
DoesSo (Present line) old new = Tells old new actions.Present line
DoesSo (Fork start line) old new = Forks old new start line
DoesSo (Begin from start) old new = new ≡ begun_by start
DoesSo (Retire target retirement line) old new = Retires old target retirement line × (new ≡ ended_with old retirement)
DoesSo (Absorb from retirement line) old new = Absorbs old retirement new line
DoesSo (Return epoch) old new = Returns old new epoch

abbrev pub IsDone : Doing → Type 0
IsDone d = DoesSo d.act d.old d.new

-- The kind of step of a call after so many others, if it is a step of the history. A message is named by the number of the call that sent it.
abbrev pub step_kind_of : ℕ → Act → Option StepKind
step_kind_of n Work = Some step_kinds.Work
step_kind_of n (Send message) = Some (step_kinds.Send (n ∷ []))
step_kind_of n (Again from message again) = None
step_kind_of n (Receive from message) = Some (step_kinds.Receive (from ∷ []))
step_kind_of n (Check line) = Some step_kinds.Check
step_kind_of n (Present line) = Some step_kinds.Present
step_kind_of n (Fork start line) = Some (step_kinds.Fork start.child start.stamp.id)
step_kind_of n (Begin from start) = None
step_kind_of n (Retire target retirement line) = Some (step_kinds.Retire target)
step_kind_of n (Absorb from retirement line) = Some (step_kinds.Absorb retirement.process)
step_kind_of n (Return epoch) = None

-- its step, with the epoch of the process
abbrev pub steps_by : Option StepKind → Doing → Trace
steps_by None d = []
steps_by (Some step_kind) d = Stepped d.old.epoch (record { process = d.old.name; step_kind = step_kind; stamp = d.new.stamp }) ∷ []

-- A call of a process, or a turn of the coordinator.
pub data Moment : Type 0 where
  Did : Doing → Moment
  Took : (call : Call) → (reply : Reply) → Moment

-- All that happened, the oldest first.
abbrev pub Account : Type 0
Account = List Moment

-- the trace of an account behind so many calls
abbrev pub traced : ℕ → Account → Trace
traced n [] = []
traced n (Did d ∷ account) = steps_by (step_kind_of n d.act) d ++ traced (n + 1) account
traced n (Took call reply ∷ account) = Turned call reply ∷ traced n account
