-- What is held over a store that is not stopped, and what an accepted report tells.
use Rattle.std.proofs.Common.{◌≡◌, ℕ, Bool, false, List, ap, subst}
use Rattle.report_line.specs.declared.report.Report.{Report}
use Rattle.report_line.specs.declared.marked.MarkedReport.{MarkedReport}
use Rattle.report_line.specs.declared.reply.Reply.{Reply}
use Rattle.report_line.specs.declared.reply.Reply.TheVariants.{Accepted}
use Rattle.chains.specs.Held.{Held}
use Rattle.chains.specs.Admission.{IsAdmission, Passes}
use Rattle.chains.proofs.Passed.{passed, has_room}
use Rattle.desk.specs.Lawful.{unstopped}

abbrev parts : List Report → List ℕ → ℕ → ℕ → Bool → Held
parts accepted epochs front epoch stopped = record { accepted = accepted; epochs = epochs; front = front; epoch = epoch; stopped = stopped }

same_held : (accepted : List Report) (es : List ℕ) (m k : ℕ) (b c : Bool) → b ≡ c → parts accepted es m k b ≡ parts accepted es m k c
same_held accepted es m k b c e = ap (parts accepted es m k) e

pub is_unstopped : (held : Held) → held.stopped ≡ false → held ≡ unstopped held
is_unstopped held goes = same_held held.accepted held.epochs held.front held.epoch held.stopped false goes

-- an accepted report passed all tests, and its reply tells the front with it
pub passes : (held : Held) (m : MarkedReport) (front : ℕ) → IsAdmission held m (Accepted front) → Passes held m
passes held m front admitted = subst (λ (answer : Reply). IsAdmission held m answer) (passed (passed (has_room held m.epoch m.report front admitted)).1).1 admitted
