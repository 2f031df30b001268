-- Reports that all tests let pass have a number that is written.
use Rattle.std.proofs.Common.{◌≡◌, ◌≢◌, ℕ, ◌+◌, Some, arith, subst}
use Rattle.report_line.specs.declared.report.Report.{Report}
use Rattle.report_line.specs.declared.report.Report.TheVariants.{Begin, Numbered}
use Rattle.report_line.specs.declared.marked.MarkedReport.{MarkedReport}
use Rattle.report_line.specs.declared.call.Call.TheVariants as calls
use Rattle.report_line.specs.Reports.{number_of, unmarked}
use Rattle.report_line.specs.Spelling.{HasSpelling}
use Rattle.report_line.specs.declared.reply.Reply.TheVariants.{Accepted}
use Rattle.chains.specs.Held.{Held}
use Rattle.chains.specs.Admission.{IsReportReply, Passes}
use Rattle.chains.proofs.Passed.{passed_tests}

-- it has no number, or one above 0
pub numbered : (held : Held) (epoch : ℕ) (r : Report) → IsReportReply held epoch r (Accepted (held.front + 1)) → number_of r ≢ Some 0
numbered held epoch (Begin p) passed zero = absurd (cc zero)
numbered held epoch (Numbered r) passed zero =
    let none : r.number ≡ 0 = cc in
    let next = (passed_tests held epoch r (held.front + 1) passed).number in
    omega (arith, none, next)

-- so it has a line
pub written : (held : Held) (m : MarkedReport) (s : Report) → s ≡ m.report → Passes held m → (number_of s ≢ Some 0 → HasSpelling (calls.Report (unmarked s))) → HasSpelling (calls.Report (unmarked m.report))
written held m s same passed has = (subst (λ (x : Report). number_of x ≢ Some 0 → HasSpelling (calls.Report (unmarked x))) same has) (numbered held m.epoch m.report passed)
