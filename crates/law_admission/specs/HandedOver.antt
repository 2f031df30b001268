-- The reports of a history, handed over in order.
use Rattle.std.specs.Prelude.{◌≡◌, ◌≢◌, List, [], ◌∷◌, ◌++◌, All, Some, ⊤}
use Rattle.report_line.specs.Reports.{unmarked}
use Rattle.report_line.specs.Spelling.{HasSpelling}
use Rattle.report_line.specs.declared.call.Call.TheVariants as calls
use Rattle.report_line.specs.declared.report.Report.{Report}
use Rattle.report_line.specs.declared.report.Report.TheVariants.{Begin}
use Rattle.report_line.specs.declared.step.StepKind.{StepKind}
use Rattle.report_line.specs.declared.step.StepKind.TheVariants.{Retire}
use Rattle.report_line.specs.histories.History.{Name, History, Unborn, status}
use Rattle.report_line.specs.histories.Lawful.{IsLawful}
use Rattle.report_line.specs.histories.StepReports.{report_of, reports}

-- BEGIN by the root, and then the reports of the history, the oldest first
abbrev pub handed_over : Name → History → List Report
handed_over root h = Begin root ∷ reports root h

-- Of what is handed over of the history, these reports are the first ones, and this is the next.
abbrev pub IsNext : Name → History → List Report → Report → Type 0
IsNext root h front r = (rest : List Report) × (handed_over root h ≡ front ++ r ∷ rest)

-- the target of a retirement is born before it
abbrev pub HasBornTarget : Name → History → StepKind → Type 0
HasBornTarget root h (Retire target) = status root h target ≢ Unborn
HasBornTarget root h _ = ⊤

-- so is the target of the retirement of the history that makes this report, if one does
abbrev pub IsTargetBorn : Name → History → Report → Type 0
IsTargetBorn root [] r = ⊤
IsTargetBorn root (s ∷ h) r = IsTargetBorn root h r × (report_of root h s ≡ Some r → HasBornTarget root h s.step_kind)

-- The report has a line: its names are names, its number is below 2 ^ 32, and its trees are in normal form and within the limits.
abbrev pub HasLine : Report → Type 0
HasLine r = HasSpelling (calls.Report (unmarked r))

-- a lawful history within the limits: all its reports have lines
pub record IsReportable (root : Name) (h : History) : Type 0 where
  pub lawful : IsLawful root h
  pub lines : All HasLine (handed_over root h)
