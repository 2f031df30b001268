-- When an accepted list agrees with a history.
use Rattle.std.specs.Prelude.{◌≡◌, List, ◌++◌, Contains}
use Rattle.report_line.specs.declared.report.NumberedReport.{NumberedReport}
use Rattle.report_line.specs.declared.report.Report.{Report}
use Rattle.report_line.specs.declared.report.Report.TheVariants.{Begin, Numbered}
use Rattle.report_line.specs.histories.History.{Name, History, Event}
use Rattle.report_line.specs.histories.StepReports.{reports, IsReportOf}
use Rattle.chains.specs.Processes.{reports_by}

-- BEGIN names the root
abbrev pub BeginsWith : Name → List Report → Type 0
BeginsWith root accepted = (p : Name) → Contains accepted (Begin p) → p ≡ root

-- the reports of the process that are accepted are those of the first of its reporting steps
abbrev pub AreFirstReports : Name → History → List Report → Name → Type 0
AreFirstReports root h accepted p = (rest : List Report) × (reports_by p (reports root h) ≡ reports_by p accepted ++ rest)

-- the accepted list agrees with the history
pub record Agrees (root : Name) (h : History) (accepted : List Report) : Type 0 where
  pub begins : BeginsWith root accepted
  pub first_reports : (p : Name) → AreFirstReports root h accepted p

-- each report but BEGIN is the report of a step, whatever was lost, repeated or reordered
abbrev pub AreReportsOfSteps : Name → History → List Report → Type 0
AreReportsOfSteps root h accepted = (r : NumberedReport) → Contains accepted (Numbered r) → (e : Event) × IsReportOf root h (Numbered r) e
