-- Working definitions: what is kept of a history beside it.
use Rattle.std.specs.Prelude.{◌≡◌, ℕ, ◌+◌, Option, Some, None, if◌then◌else◌, List, reverse, slice_get, All}
use Rattle.std.specs.Option.{option_map}
use Rattle.std.specs.Str.{bytes_eq}
use Rattle.indexmap.specs.IndexMap.{get}
use Rattle.event_tree.specs.EventTree.{EventTree}
use Rattle.stamp.specs.declared.stamp.Stamp.{Stamp}
use Rattle.report_line.specs.declared.step.StepKind.{StepKind}
use Rattle.report_line.specs.declared.step.StepKind.TheVariants.{Send, Fork, Retire, Absorb}
use Rattle.report_line.specs.declared.step.Step.{Step as Taken}
use Rattle.report_line.specs.histories.History.{Name, History, Event, Status, Unborn, Living, Retired, Absorbed, status, sending}
use Rattle.report_line.specs.histories.Lawful.{IsLawful}
use Rattle.report_line.specs.histories.StepReports.{is_reported, reporting_steps, report_of}
use Rattle.law_admission.specs.HandedOver.{handed_over, HasLine}
use Rattle.driver.specs.Stamping.{stamp_of}
use Rattle.driver.specs.declared.process_status.ProcessStatus.{ProcessStatus}
use Rattle.driver.specs.declared.process_status.ProcessStatus.TheVariants.{Born, Lives, Waits, Gone}
use Rattle.driver.specs.declared.tables.Tables.{Tables}
use Rattle.driver.specs.declared.tables.Other.{Other}
use Rattle.driver.specs.working.Made.{Made}

-- How a process stands: it lives, with this stamp and so many reports; or it retired with this stamp into the target, and waits; or
-- it was absorbed.
pub data Standing : Type 0 where
  LivesWith : (stamp : Stamp) → (reports : ℕ) → Standing
  WaitsWith : (stamp : Stamp) → (target : Name) → Standing
  IsGone : Standing

-- how a process stands of which this is kept beside the steps, if its place is one of them
abbrev pub standing : List Taken → ProcessStatus → Option Standing
standing steps (Born s) = Some (LivesWith s 0)
standing steps (Lives place n) = option_map (λ s. LivesWith s.stamp n) (slice_get steps place)
standing steps (Waits place q) = option_map (λ s. WaitsWith s.stamp q) (slice_get steps place)
standing steps Gone = Some IsGone

-- how a process stands of which something is kept, by its status and how many reports it has
abbrev pub shown : Status → ℕ → Option (Option Standing)
shown Unborn n = None
shown (Living last) n = Some (Some (LivesWith (stamp_of last) n))
shown (Retired last into) n = Some (Some (WaitsWith (stamp_of last) into))
shown Absorbed n = Some (Some IsGone)

-- the events of the step at this place, if there is one
abbrev pub events_at : List Taken → ℕ → Option EventTree
events_at steps place = option_map (λ s. s.stamp.events) (slice_get steps place)

-- what stands at the place that is kept of a message that was sent so
abbrev pub carried : Option Event → Option (Option EventTree)
carried sent = option_map (λ e. Some e.values) sent

-- the steps are kept with the oldest first
abbrev pub history_in : Tables → History
history_in t = reverse t.steps.items

-- what holds of the tables: the history is lawful, what is kept beside each name comes to what the history says of it, and all its
-- reports have lines; the step at a place that is kept of a process has the stamp that the history says, and that of a message the events
pub record AreSound (t : Tables) : Type 0 where
  pub lawful : IsLawful t.root (history_in t)
  pub known : (p : Name) → option_map (standing t.steps.items) (get bytes_eq t.known p) ≡ shown (status t.root (history_in t) p) (reporting_steps p (history_in t))
  pub messages : (m : Name) → option_map (events_at t.steps.items) (get bytes_eq t.messages m) ≡ carried (sending (history_in t) m)
  pub lines : All HasLine (handed_over t.root (history_in t))

-- ---- what a step changes

-- how many reports a process has after its step, of n before
abbrev pub reports_after : StepKind → ℕ → ℕ
reports_after d n = if is_reported d then n + 1 else n

-- what is kept of the process after its step at this place, with so many reports then
abbrev pub kept_of_actor : StepKind → ℕ → ℕ → ProcessStatus
kept_of_actor (Retire q) place n = Waits place q
kept_of_actor _ place n = Lives place n

-- what else is kept: a child begins, or who is absorbed is gone
abbrev pub kept_of_other : StepKind → Stamp → Option Other
kept_of_other (Fork c i) s = Some (record { name = c; known = Born (record { id = i; events = s.events }) })
kept_of_other (Absorb r) s = Some (record { name = r; known = Gone })
kept_of_other _ s = None

-- with the step stands what it changes
pub record Changes (h : History) (made : Made) : Type 0 where
  pub reports : made.reports ≡ reports_after made.step.step_kind (reporting_steps made.step.process h)
  pub other : made.other ≡ kept_of_other made.step.step_kind made.step.stamp

-- with the step stands what it changes, and its report
pub record IsMadeStep (root : Name) (h : History) (made : Made) : Type 0 where
  pub reports : made.reports ≡ reports_after made.step.step_kind (reporting_steps made.step.process h)
  pub other : made.other ≡ kept_of_other made.step.step_kind made.step.stamp
  pub report : made.report ≡ report_of root h made.step

-- what a name has after another one is noted
abbrev pub noted_other : Option Other → Name → Option ProcessStatus → Option ProcessStatus
noted_other None q before = before
noted_other (Some o) q before = if bytes_eq o.name q then Some o.known else before

-- the place of a step of this kind is noted, if it sends the message
abbrev pub noted_message : StepKind → ℕ → Name → Option ℕ → Option ℕ
noted_message (Send n) place m before = if bytes_eq n m then Some place else before
noted_message _ place m before = before
