-- What a step that is reported leaves behind.
use Rattle.std.specs.Prelude.{◌≡◌, ◌≢◌, ℕ, ◌+◌, ⊤}
use Rattle.id_tree.specs.IdTree.{IdTree}
use Rattle.id_tree.specs.Split.{IsSplit}
use Rattle.event_tree.specs.Event.{IsEventStep}
use Rattle.event_tree.specs.Grown.{IsGrown}
use Rattle.stamp.specs.declared.stamp.Stamp.{Stamp}
use Rattle.stamp.specs.Operations.{IsAbsorb}
use Rattle.report_line.specs.declared.report.ReportKind.{ReportKind}
use Rattle.report_line.specs.declared.report.ReportKind.TheVariants as actions
use Rattle.report_line.specs.histories.History.{Name}
use Rattle.process.specs.declared.process.Process.{Process}
use Rattle.process.specs.declared.handed.Retirement.{Retirement}
use Rattle.process.specs.declared.fault.ProcessFault.{ProcessFault}
use Rattle.process.specs.declared.fault.ProcessFault.TheVariants as faults
use Rattle.process.specs.declared.reporting.ReportedStep.{ReportedStep}
use Rattle.process.specs.declared.forking.ForkResult.{ForkResult}
use Rattle.process.specs.Leaves.{HasRoomFor}
use Rattle.process.specs.working.Leaves.{IsCarved}
use Rattle.process.specs.Steps.{IsLineOf, Counts, next_report, fork_report}

-- the process behind a report
abbrev pub after_told : Process → ReportedStep → Process
after_told old told = record { name = old.name; epoch = old.epoch; reports = told.number; stamp = told.stamp }

-- a report with this stamp and action was made
pub record IsReported (old : Process) (stamp : Stamp) (action : ReportKind) (told : ReportedStep) : Type 0 where
  pub number : told.number ≡ old.reports + 1
  pub stamp_is : told.stamp ≡ stamp
  pub line_is : IsLineOf old.epoch (next_report old stamp action) told.line.items

-- an event was counted, and reported with this action
pub record IsReportedStep (old : Process) (action : ReportKind) (told : ReportedStep) : Type 0 where
  pub number : told.number ≡ old.reports + 1
  pub stamped : Counts old.stamp told.stamp
  pub line_is : IsLineOf old.epoch (next_report old told.stamp action) told.line.items

-- an absorption was counted and reported
pub record IsAbsorbTold (old : Process) (retirement : Retirement) (told : ReportedStep) : Type 0 where
  pub number : told.number ≡ old.reports + 1
  pub stamped : IsAbsorb old.stamp retirement.stamp told.stamp
  pub line_is : IsLineOf old.epoch (next_report old told.stamp (actions.Absorb retirement.process)) told.line.items

-- an event was counted on the stamp, and its id split: this is kept, and that is given
pub record AreForkParts (s kept given : Stamp) : Type 0 where
  pub step : IsEventStep s.id s.events kept.events
  pub grown : IsGrown s.id s.events kept.events
  pub same : given.events ≡ kept.events
  pub split : IsSplit s.id kept.id given.id

-- a fork with these parts was reported
pub record IsForkTold (old : Process) (child : Name) (kept given : Stamp) (parted : ForkResult) : Type 0 where
  pub number : parted.number ≡ old.reports + 1
  pub kept_is : parted.kept ≡ kept
  pub given_is : parted.given ≡ given
  pub line_is : IsLineOf old.epoch (fork_report old kept child given.id) parted.line.items

-- a fork was counted and reported
pub record IsParted (old : Process) (child : Name) (parted : ForkResult) : Type 0 where
  pub number : parted.number ≡ old.reports + 1
  pub other : child ≢ old.name
  pub parts : AreForkParts old.stamp parted.kept parted.given
  pub line_is : IsLineOf old.epoch (fork_report old parted.kept child parted.given.id) parted.line.items

-- no leaf of this depth is cut off an id
abbrev pub RefusesCarving : ProcessFault → IdTree → ℕ → Type 0
RefusesCarving faults.TooDeep i depth = ¬ HasRoomFor i depth
RefusesCarving faults.Memory i depth = ⊤
RefusesCarving _ i depth = ⊥

-- the same events with both parts of an id, of which the second is a leaf of this depth
pub record AreCarved (after : Stamp) (depth : ℕ) (kept given : Stamp) : Type 0 where
  pub carved : IsCarved after.id depth kept.id given.id
  pub kept_events : kept.events ≡ after.events
  pub given_events : given.events ≡ after.events
