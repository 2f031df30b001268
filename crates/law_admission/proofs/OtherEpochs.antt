-- A report of another epoch changes nothing.
use Rattle.std.proofs.Common.{◌≡◌, ◌≢◌, ◌∙◌, ◌+◌, Bool, true, false, refl}
use Rattle.report_line.specs.declared.marked.MarkedReport.{MarkedReport}
use Rattle.report_line.specs.declared.call.Call.TheVariants as calls
use Rattle.report_line.specs.declared.reply.Outcome.TheVariants.{Before, Unknown}
use Rattle.report_line.specs.declared.reply.Reply.{Reply}
use Rattle.report_line.specs.declared.reply.Reply.TheVariants.{Accepted, Fail}
use Rattle.chains.specs.Held.{Held}
use Rattle.chains.specs.Admission.{IsAdmission, held_after}
use Rattle.chains.specs.Turns.{Fate, fine, memory, before, unknown, IsReported, IsTurn}
use Rattle.chains.proofs.Passed.{present_epoch}
use Rattle.chains.proofs.Unfailing.{failure_is_other, of_admission}

left_alone : (held : Held) (m : MarkedReport) (reply : Reply) → m.epoch ≢ held.epoch → IsAdmission held m reply → held_after held m reply ≡ held
left_alone held m (Accepted front) other admitted = absurd (other (present_epoch held m.epoch m.report front admitted))
left_alone held m (Fail Before) other admitted = absurd (of_admission (Fail Before) (failure_is_other Before) held m admitted)
left_alone held m (Fail Unknown) other admitted = absurd (of_admission (Fail Unknown) (failure_is_other Unknown) held m admitted)
left_alone held m _ other admitted = refl

unmoved : (stopped : Bool) (fate : Fate) (held after : Held) (m : MarkedReport) (reply : Reply) → m.epoch ≢ held.epoch → IsReported stopped fate held m reply after → after ≡ held
unmoved true fate held after m reply other t = t.2
unmoved false fine held after m reply other t = t.1 ∙ left_alone held m reply other t.0
unmoved false memory held after m reply other t = t.4
unmoved false before held after m reply other t = absurd (other (present_epoch held m.epoch m.report (held.front + 1) t.0))
unmoved false unknown held after m reply other t = absurd (other (present_epoch held m.epoch m.report (held.front + 1) t.0))

pub other_epoch_unmoved : (held after : Held) (m : MarkedReport) (reply : Reply) → m.epoch ≢ held.epoch → IsTurn held (calls.Report m) reply after → after ≡ held
other_epoch_unmoved held after m reply other (fate, t) = unmoved held.stopped fate held after m reply other t
