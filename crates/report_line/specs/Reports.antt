-- What is read off a report.
use Rattle.std.specs.Prelude.{ℕ, List, Option, Some, None}
use Rattle.report_line.specs.declared.report.Report.{Report}
use Rattle.report_line.specs.declared.report.Report.TheVariants.{Begin, Numbered}
use Rattle.report_line.specs.declared.marked.MarkedReport.{MarkedReport}

-- the process that reports
abbrev pub process_of : Report → List ℕ
process_of (Begin p) = p
process_of (Numbered r) = r.process

-- its number, if it has one
abbrev pub number_of : Report → Option ℕ
number_of (Begin p) = None
number_of (Numbered r) = Some r.number

-- the report as a line without a mark gives it
abbrev pub unmarked : Report → MarkedReport
unmarked r = record { epoch = 0; report = r }
