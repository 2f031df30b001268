-- Working definitions: a step that is ready, with what it changes and its report.
use Rattle.std.specs.Prelude.{ℕ, Option, Some, None}
use Rattle.stamp.specs.declared.stamp.Stamp.{Stamp}
use Rattle.report_line.specs.histories.History.{Name}
use Rattle.report_line.specs.declared.report.ReportKind.{ReportKind}
use Rattle.report_line.specs.declared.report.Report.{Report}
use Rattle.report_line.specs.declared.report.Report.TheVariants.{Numbered}
use Rattle.report_line.specs.declared.step.StepKind.{StepKind}
use Rattle.report_line.specs.declared.step.Step.{Step as Taken}
use Rattle.driver.specs.declared.tables.Other.{Other}
use Rattle.driver.specs.declared.tables.Remade.{Remade}

-- a step, how many reports its process has then, another process that it changes, and its report
pub record Made : Type 0 where
  pub step : Taken
  pub reports : ℕ
  pub other : Option Other
  pub report : Option Report

-- the step of this kind, with this stamp after it
abbrev pub step_of : Name → StepKind → Stamp → Taken
step_of p d t = record { process = p; step_kind = d; stamp = t }

-- a report with a number
abbrev pub numbered_report : Name → ℕ → Stamp → ReportKind → Report
numbered_report p n s a = Numbered (record { process = p; number = n; stamp = s; action = a })

-- a step that is not reported, and one that is
abbrev pub silently : Name → StepKind → Stamp → ℕ → Made
silently p d t n = record { step = step_of p d t; reports = n; other = None; report = None }

abbrev pub openly : Name → StepKind → Stamp → Option Other → ℕ → Stamp → ReportKind → Made
openly p d t other n reported a = record { step = step_of p d t; reports = n; other = other; report = Some (numbered_report p n reported a) }

-- one that is made once more, which is not reported again
abbrev pub again : Remade → Made
again r = record { step = r.step; reports = r.reports; other = r.other; report = None }
