-- A step as it was asked, stamped by the rules of this project's profile.
use Rattle.std.specs.Prelude.{◌≡◌, Option, Some, ◌∷◌}
use Rattle.id_tree.specs.IdTree.{IdTree}
use Rattle.stamp.specs.declared.stamp.Stamp.{Stamp}
use Rattle.stamp.specs.Operations.{IsEvent, IsFork, IsReceive, IsAbsorb}
use Rattle.report_line.specs.declared.report.Report.{Report}
use Rattle.report_line.specs.declared.step.StepKind.TheVariants as step_kinds
use Rattle.report_line.specs.declared.step.Step.{Step as Taken}
use Rattle.report_line.specs.histories.History.{Name, History, Event, Living, Retired, status, sending}
use Rattle.report_line.specs.histories.Lawful.{IsLawful}
use Rattle.report_line.specs.histories.StepReports.{report_of}
use Rattle.driver.specs.declared.step.StepRequest.{StepRequest}
use Rattle.driver.specs.declared.step.StepRequest.TheVariants.{Work, Check, Present, Send, Receive, Fork, Retire, Absorb}
use Rattle.driver.specs.declared.step.Step.{Step}
use Rattle.driver.specs.Chronicle.{Chronicle}

-- the stamp of a process after this event of it
abbrev pub stamp_of : Event → Stamp
stamp_of e = record { id = e.id; events = e.values }

-- The step is of the kind that was asked, and the stamp after it: an event; for a receive the join with what the message
-- carries, and then an event; for a fork an event, and then the halves of the id; for an absorption an event on the own stamp,
-- and then the join with the retired one.
abbrev pub IsStamped : Name → History → Event → StepRequest → Taken → Type 0
IsStamped root h before Work s = (s.step_kind ≡ step_kinds.Work) × IsEvent (stamp_of before) s.stamp
IsStamped root h before Check s = (s.step_kind ≡ step_kinds.Check) × IsEvent (stamp_of before) s.stamp
IsStamped root h before Present s = (s.step_kind ≡ step_kinds.Present) × IsEvent (stamp_of before) s.stamp
IsStamped root h before (Send m) s = (s.step_kind ≡ step_kinds.Send m) × IsEvent (stamp_of before) s.stamp
IsStamped root h before (Receive m) s =
    (sent : Event) × (s.step_kind ≡ step_kinds.Receive m) × (sending h m ≡ Some sent) × IsReceive (stamp_of before) sent.values s.stamp
IsStamped root h before (Fork c) s =
    (given : IdTree) × (s.step_kind ≡ step_kinds.Fork c given) × IsFork (stamp_of before) s.stamp (record { id = given; events = s.stamp.events })
IsStamped root h before (Retire q) s = (s.step_kind ≡ step_kinds.Retire q) × IsEvent (stamp_of before) s.stamp
IsStamped root h before (Absorb r) s =
    (retirement : Event) × (s.step_kind ≡ step_kinds.Absorb r) × (status root h r ≡ Retired retirement s.process) × IsAbsorb (stamp_of before) (stamp_of retirement) s.stamp

-- the step is the one that was asked
pub record IsStepAsked (root : Name) (h : History) (a : Step) (s : Taken) : Type 0 where
  pub process : s.process ≡ a.process
  pub before : Event
  pub living : status root h s.process ≡ Living before
  pub stamped : IsStamped root h before a.request s

-- just the step asked was added, the history is lawful with it, and its report, if it is reported, was given
pub record Takes (old : Chronicle) (a : Step) (new : Chronicle) (given : Option Report) : Type 0 where
  pub step : Taken
  pub asked : IsStepAsked old.root old.history a step
  pub root : new.root ≡ old.root
  pub epoch : new.epoch ≡ old.epoch
  pub history : new.history ≡ step ∷ old.history
  pub lawful : IsLawful new.root new.history
  pub report : given ≡ report_of old.root old.history step
