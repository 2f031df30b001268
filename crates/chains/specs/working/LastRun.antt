-- The last run of a process, as it is kept.
use Rattle.std.specs.Prelude.{ℕ, List, [], ◌∷◌, ◌++◌}
use Rattle.stamp.specs.declared.stamp.Stamp.{Stamp}
use Rattle.report_line.specs.declared.report.ReportKind.{ReportKind}
use Rattle.report_line.specs.declared.report.ReportKind.TheVariants.{Check}
use Rattle.report_line.specs.declared.report.Report.{Report}
use Rattle.report_line.specs.declared.report.Report.TheVariants.{Begin, Numbered}
use Rattle.chains.specs.LastRun.{same_id_from}

-- the last run of a process that reports this behind these stable elements
abbrev pub run_by : List Stamp → Stamp → ReportKind → ℕ
run_by ss s Check = same_id_from (ss ++ s ∷ [])
run_by ss s _ = same_id_from ss

abbrev pub run_after : List Stamp → Report → ℕ
run_after ss (Begin p) = 0
run_after ss (Numbered r) = run_by ss r.stamp r.action
