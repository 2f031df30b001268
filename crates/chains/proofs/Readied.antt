-- A report for which room was made.
use Rattle.std.proofs.Common.{◌≡◌, ℕ, List, Option, Some, None, sym, subst}
use Rattle.std.specs.Option.{unwrap_or}
use Rattle.report_line.specs.declared.report.Report.{Report}
use Rattle.report_line.specs.declared.report.Report.TheVariants.{Begin, Numbered}
use Rattle.report_line.specs.declared.reply.Reply.TheVariants.{Accepted}
use Rattle.chains.specs.Held.{Held}
use Rattle.chains.specs.Admission.{IsReportReply}
use Rattle.chains.specs.Kept.{Kept, HasRoomFor}
use Rattle.chains.specs.Answers.{IsNumberOf}
use Rattle.chains.specs.working.Testing.{IsNumberIn}
use Rattle.chains.specs.working.Noting.{IsFound, HasPlace}
use Rattle.chains.proofs.Passed.{passed_tests}

pub readied : (k : Kept) (accepted : List Report) (r : Report) (number : Option ℕ) → k.accepted ≡ accepted → IsNumberIn accepted r number → IsFound r number → HasPlace number k.rooms
    → IsNumberOf k.accepted r (unwrap_or number 0) × HasRoomFor k r (unwrap_or number 0)
readied k accepted (Begin p) number same is found room = (tt, tt)
readied k accepted (Numbered r) None same is found room = absurd found
readied k accepted (Numbered r) (Some i) same is found room = (subst (λ (xs : List Report). IsNumberOf xs (Numbered r) i) (sym same) is, room)

-- the number of a report that is accepted was found
pub found : (held : Held) (epoch : ℕ) (r : Report) (number : Option ℕ) (front : ℕ) → IsNumberIn held.accepted r number → IsReportReply held epoch r (Accepted front) → IsFound r number
found held epoch (Begin p) number front is admitted = is
found held epoch (Numbered r) None front is admitted = is (passed_tests held epoch r front admitted).is_known
found held epoch (Numbered r) (Some i) front is admitted = tt
