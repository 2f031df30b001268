-- Working definitions: adding the steps of a line to new tables.
use Rattle.std.specs.Prelude.{◌≡◌, ℕ, Bool, true, false, Option, Some}
use Rattle.std.specs.Option.{is_some}
use Rattle.std.specs.Str.{bytes_eq}
use Rattle.indexmap.specs.IndexMap.{get}
use Rattle.report_line.specs.declared.step.StepKind.{StepKind}
use Rattle.report_line.specs.declared.step.StepKind.TheVariants.{Receive, Fork, Absorb}
use Rattle.report_line.specs.declared.step.Step.{Step as Taken}
use Rattle.report_line.specs.histories.History.{Name, History}
use Rattle.law_histories.specs.Kept.{Cut, IsClosed, kept}
use Rattle.driver.specs.declared.process_status.ProcessStatus.{ProcessStatus}
use Rattle.driver.specs.declared.process_status.ProcessStatus.TheVariants.{Waits}
use Rattle.driver.specs.declared.tables.Tables.{Tables}
use Rattle.driver.specs.working.Made.{Made}
use Rattle.driver.specs.working.Marks.{Marks, reached}
use Rattle.driver.specs.working.Tables.{AreSound, history_in, reports_after, kept_of_other}

-- the step, with what it changes where its process made n reports before
pub record IsRemade (s : Taken) (n : ℕ) (made : Made) : Type 0 where
  pub step : made.step ≡ s
  pub reports : made.reports ≡ reports_after s.step_kind n
  pub other : made.other ≡ kept_of_other s.step_kind s.stamp

-- a retirement of the process waits
abbrev pub is_waiting : Option ProcessStatus → Bool
is_waiting (Some (Waits place q)) = true
is_waiting _ = false

-- by these tables, what is received was sent, and what is absorbed retired
abbrev pub is_due : Tables → StepKind → Bool
is_due t (Receive m) = is_some (get bytes_eq t.messages m)
is_due t (Absorb r) = is_waiting (get bytes_eq t.known r)
is_due t _ = true

-- the kind of step is a fork, by this event, of a child whose birth is in the line
abbrev pub bears : Marks → StepKind → ℕ → Bool
bears marks (Fork c i) n = reached marks c n
bears marks _ n = false

-- The steps of the history that are in the cut are in the tables, and the cut is closed.
pub record AreKept (root : Name) (epoch : ℕ) (cut : Cut) (h : History) (t : Tables) : Type 0 where
  pub same_root : t.root ≡ root
  pub in_epoch : t.epoch ≡ epoch
  pub sound : AreSound t
  pub history : history_in t ≡ kept cut h
  pub closed : IsClosed root h cut
