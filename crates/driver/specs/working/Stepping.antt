-- Working definitions: what becomes of a world's tables where a step is asked.
use Rattle.std.specs.Prelude.{◌≡◌, ◌≢◌, ◌++◌, [], Option, Some, None, Result, OnOk, OnErr, IfOk, IfErr}
use Rattle.std.specs.List.{cons_option}
use Rattle.report_line.specs.declared.report.Report.{Report}
use Rattle.report_line.specs.histories.StepReports.{reports}
use Rattle.driver.specs.declared.fault.StepFault.{StepFault}
use Rattle.driver.specs.declared.fault.StepFault.TheVariants as faults
use Rattle.driver.specs.declared.step.Step.{Step}
use Rattle.driver.specs.declared.tables.Tables.{Tables}
use Rattle.driver.specs.Stamping.{Takes}
use Rattle.driver.specs.Verdicts.{IsVerdict}
use Rattle.driver.specs.working.Tables.{AreSound, history_in}
use Rattle.driver.specs.working.Seen.{chronicle_in}

-- the step was taken, and this is its report; or it was refused, and all is as before
pub record IsStepTaken (old : Tables) (asked : Step) (new : Tables) (result : Result (Option Report) StepFault) : Type 0 where
  pub sound : AreSound new
  pub step : IfOk result (λ given. Takes (chronicle_in old) asked (chronicle_in new) given)
  pub reports : IfOk result (λ given. reports new.root (history_in new) ≡ reports old.root (history_in old) ++ cons_option given [])
  pub accepted : OnOk result (IsVerdict old.root (history_in old) asked.process asked.request None)
  pub refused : IfErr result (λ fault. fault ≢ faults.Memory → IsVerdict old.root (history_in old) asked.process asked.request (Some fault))
  pub unchanged : OnErr result (chronicle_in new ≡ chronicle_in old)
