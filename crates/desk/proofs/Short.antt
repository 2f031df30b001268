-- What holds of the line of a call: that it is short enough for a record, and where the record is to be these bytes.
use Rattle.std.proofs.Common.{◌≡◌, ℕ, ◌≤◌, List, length, ap, ◌∙◌, arith}
use Rattle.report_line.specs.Spelling.{spelling}
use Rattle.report_line.specs.declared.call.Call.{Call}
use Rattle.report_line.specs.declared.call.Call.TheVariants as calls
use Rattle.desk.specs.Files.{IsShort}
use Rattle.desk.specs.Records.{IsReadOff}
use Rattle.desk.proofs.Spelled.{no_longer}

-- what a short line is read as
pub short_call : (line : List ℕ) (call : Call) → length line ≤ 8192 → line ≡ spelling call → IsShort call
short_call line (calls.Report m) few is = omega (arith, few, ap length is, no_longer m)
short_call line (calls.Line names) few is = tt
short_call line calls.Garbage few is = tt
short_call line (calls.Settle front names) few is = omega (arith, few, ap length is)
short_call line (calls.State p) few is = tt
short_call line calls.Bye few is = tt
short_call line (calls.Bad n) few is = tt
short_call line calls.Unread few is = tt

-- where the call is a report without a mark, its line is that of the record
pub spelled_off : (line : List ℕ) (call : Call) → line ≡ spelling call → IsReadOff line call
spelled_off line (calls.Report m) is = λ none. is ∙ ap (λ (epoch : ℕ). spelling (calls.Report (record { epoch = epoch; report = m.report }))) none
spelled_off line (calls.Line names) is = tt
spelled_off line calls.Garbage is = tt
spelled_off line (calls.Settle front names) is = tt
spelled_off line (calls.State p) is = tt
spelled_off line calls.Bye is = tt
spelled_off line (calls.Bad n) is = tt
spelled_off line calls.Unread is = tt
