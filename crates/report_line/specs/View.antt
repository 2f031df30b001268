-- The fields that are read off a kept report.
use Rattle.std.specs.Prelude.{◌≡◌}
use Rattle.report_line.specs.declared.packed.ReportKindView.{ReportKindView}
use Rattle.report_line.specs.declared.packed.ReportKindView.TheVariants as shown
use Rattle.report_line.specs.declared.packed.NumberedView.{NumberedView}
use Rattle.report_line.specs.declared.packed.Packed.{Packed}
use Rattle.report_line.specs.declared.packed.Packed.TheVariants as kinds
use Rattle.report_line.specs.declared.packed.ReportView.{ReportView}
use Rattle.report_line.specs.declared.packed.ReportView.TheVariants as views
use Rattle.report_line.specs.declared.report.ReportKind.{ReportKind}
use Rattle.report_line.specs.declared.report.ReportKind.TheVariants.{Check, Present, Fork, Retire, Absorb}
use Rattle.report_line.specs.declared.report.NumberedReport.{NumberedReport}
use Rattle.report_line.specs.declared.report.Report.{Report}
use Rattle.report_line.specs.declared.report.Report.TheVariants.{Begin, Numbered}

-- the action, read off a report
abbrev pub action_of : ReportKindView → ReportKind
action_of shown.Check = Check
action_of shown.Present = Present
action_of (shown.Fork f) = Fork f.now
action_of (shown.Retire target) = Retire target.now
action_of (shown.Absorb retired) = Absorb retired.now

-- the report with a number, read off field by field
abbrev pub numbered_of : NumberedView → NumberedReport
numbered_of v = record { process = v.process.now; number = v.number; stamp = v.stamp.now; action = action_of v.action }

-- these are the fields of the report
abbrev pub ShowsReport : ReportView → Report → Type 0
ShowsReport (views.Begin p) r = r ≡ Begin p.now
ShowsReport (views.Numbered v) r = r ≡ Numbered (numbered_of v)

-- Working definition.

-- the report that is kept
abbrev pub unpacked : Packed → Report
unpacked (kinds.Begin p) = Begin p
unpacked (kinds.Check p n s) = Numbered (record { process = p; number = n; stamp = s; action = Check })
unpacked (kinds.Present p n s) = Numbered (record { process = p; number = n; stamp = s; action = Present })
unpacked (kinds.Fork p n s f) = Numbered (record { process = p; number = n; stamp = s; action = Fork f })
unpacked (kinds.Retire p n s target) = Numbered (record { process = p; number = n; stamp = s; action = Retire target })
unpacked (kinds.Absorb p n s retired) = Numbered (record { process = p; number = n; stamp = s; action = Absorb retired })
