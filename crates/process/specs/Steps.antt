-- What each call does: a step of the process by the clock's rules, and its report.
use Rattle.std.specs.Prelude.{◌≡◌, ◌≢◌, ℕ, ◌+◌, ◌<◌, ◌≤◌, List}
use Rattle.id_tree.specs.IdTree.{IdTree}
use Rattle.id_tree.specs.Split.{left_part, right_part, IsSplit}
use Rattle.event_tree.specs.Event.{IsEventStep}
use Rattle.event_tree.specs.Grown.{IsGrown}
use Rattle.event_tree.specs.Values.{IsAtOrBelow}
use Rattle.stamp.specs.declared.stamp.Stamp.{Stamp}
use Rattle.stamp.specs.Operations.{IsEvent, IsReceive, IsAbsorb}
use Rattle.report_line.specs.declared.call.Call.TheVariants as calls
use Rattle.report_line.specs.declared.report.ReportKind.{ReportKind}
use Rattle.report_line.specs.declared.report.ReportKind.TheVariants as actions
use Rattle.report_line.specs.declared.report.Report.{Report}
use Rattle.report_line.specs.declared.report.Report.TheVariants.{Numbered}
use Rattle.report_line.specs.histories.History.{Name}
use Rattle.report_line.specs.Reading.{Spells}
use Rattle.process.specs.declared.process.Process.{Process}
use Rattle.process.specs.declared.handed.Message.{Message}
use Rattle.process.specs.declared.handed.Start.{Start}
use Rattle.process.specs.declared.handed.Retirement.{Retirement}

-- the line is that of this report with this epoch: it is read as that, and as nothing else
abbrev pub IsLineOf : ℕ → Report → List ℕ → Type 0
IsLineOf epoch report line = Spells (calls.Report (record { epoch = epoch; report = report })) line

-- the next report of the process, with this stamp and action
abbrev pub next_report : Process → Stamp → ReportKind → Report
next_report p stamp action = Numbered (record { process = p.name; number = p.reports + 1; stamp = stamp; action = action })

-- The next report of the process, of a fork: the process keeps this stamp, and the child is given this part. The stamp of the report is the
-- one from before the id was split.
abbrev pub fork_report : Process → Stamp → Name → IdTree → Report
fork_report p kept child given =
    next_report p (record { id = p.stamp.id; events = kept.events }) (actions.Fork (record { kept = kept.id; child = child; given = given }))

-- The process goes on with another stamp, and has made so many more reports.
pub record GoesOn (old new : Process) (reported : ℕ) : Type 0 where
  pub name : new.name ≡ old.name
  pub epoch : new.epoch ≡ old.epoch
  pub reports : new.reports ≡ old.reports + reported

-- An event on the stamp: the step that the usual rule takes, which raises what the id owns.
pub record Counts (old new : Stamp) : Type 0 where
  pub event : IsEvent old new
  pub grown : IsGrown old.id old.events new.events

-- a step of its own that it does not report: it works, or it sends what it knows then
pub record Works (old new : Process) : Type 0 where
  pub goes : GoesOn old new 0
  pub stamped : Counts old.stamp new.stamp

pub record Sends (old new : Process) (message : Message) : Type 0 where
  pub works : Works old new
  pub epoch : message.epoch ≡ old.epoch
  pub events : message.events ≡ new.stamp.events

-- A message is handed over once more: the same events, with the epoch of the process. The message is of no newer epoch, and the process knows
-- what it tells; who sent it is not asked. The process makes no step.
pub record HandsOver (p : Process) (message again : Message) : Type 0 where
  pub not_newer : message.epoch ≤ p.epoch
  pub known : IsAtOrBelow message.events p.stamp.events
  pub epoch : again.epoch ≡ p.epoch
  pub events : again.events ≡ message.events

-- a step of its own that it reports: a check, or its present state
pub record Tells (old new : Process) (action : ReportKind) (line : List ℕ) : Type 0 where
  pub goes : GoesOn old new 1
  pub stamped : Counts old.stamp new.stamp
  pub reported : IsLineOf old.epoch (next_report old new.stamp action) line

-- what a message of its own epoch tells is joined, and then an event is counted
pub record Receives (old : Process) (message : Message) (new : Process) : Type 0 where
  pub epoch : message.epoch ≡ old.epoch
  pub goes : GoesOn old new 0
  pub stamped : IsReceive old.stamp message.events new.stamp

-- An event is counted, and then the id is split: the child starts from one part, in the same epoch and with the same events.
pub record Forks (old new : Process) (start : Start) (line : List ℕ) : Type 0 where
  pub goes : GoesOn old new 1
  pub step : IsEventStep old.stamp.id old.stamp.events new.stamp.events
  pub grown : IsGrown old.stamp.id old.stamp.events new.stamp.events
  pub other_name : start.child ≢ old.name
  pub epoch : start.epoch ≡ old.epoch
  pub same : start.stamp.events ≡ new.stamp.events
  pub split : IsSplit old.stamp.id new.stamp.id start.stamp.id
  pub reported : IsLineOf old.epoch (fork_report old new.stamp start.child start.stamp.id) line

-- the id is halved
pub record Halves (old new : IdTree) (given : IdTree) : Type 0 where
  pub kept : new ≡ left_part old
  pub given_is : given ≡ right_part old

-- An event is counted, and the stamp goes to the target. The process has no later step.
pub record Retires (old : Process) (target : Name) (retirement : Retirement) (line : List ℕ) : Type 0 where
  pub other : target ≢ old.name
  pub process : retirement.process ≡ old.name
  pub epoch : retirement.epoch ≡ old.epoch
  pub target_is : retirement.target ≡ target
  pub stamped : Counts old.stamp retirement.stamp
  pub reported : IsLineOf old.epoch (next_report old retirement.stamp (actions.Retire target)) line

-- An event is counted on the own stamp, and then that of a process that retired into this one joins it.
pub record Absorbs (old : Process) (retirement : Retirement) (new : Process) (line : List ℕ) : Type 0 where
  pub into_this : retirement.target ≡ old.name
  pub other : retirement.process ≢ old.name
  pub goes : GoesOn old new 1
  pub stamped : IsAbsorb old.stamp retirement.stamp new.stamp
  pub reported : IsLineOf old.epoch (next_report old new.stamp (actions.Absorb retirement.process)) line

-- Behind a settlement the process goes on from what it was at its position, in the epoch of the settlement.
pub record Returns (kept new : Process) (epoch : ℕ) : Type 0 where
  pub later : kept.epoch < epoch
  pub new_is : new ≡ record { name = kept.name; epoch = epoch; reports = kept.reports; stamp = kept.stamp }
