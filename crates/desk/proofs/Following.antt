-- The record of a report that was answered FAIL unknown may follow.
use Rattle.std.proofs.Common.{◌≡◌, Bool, true, false, refl, sym, subst}
use Rattle.std.proofs.lemmas.Bool.{true≢false}
use Rattle.record_file.specs.File.{Said}
use Rattle.report_line.specs.Reports.{unmarked}
use Rattle.report_line.specs.Spelling.{HasSpelling}
use Rattle.report_line.specs.declared.marked.MarkedReport.{MarkedReport}
use Rattle.report_line.specs.declared.call.Call.{Call}
use Rattle.report_line.specs.declared.call.Call.TheVariants as calls
use Rattle.report_line.specs.declared.reply.Outcome.TheVariants.{Unknown}
use Rattle.report_line.specs.declared.reply.Reply.{Reply}
use Rattle.report_line.specs.declared.reply.Reply.TheVariants.{Fail}
use Rattle.chains.specs.Kept.{Kept}
use Rattle.chains.specs.Held.{Held, held_of, held_with, with_report}
use Rattle.chains.specs.Admission.{Passes}
use Rattle.chains.specs.Turns.{Fate, fine, memory, before, unknown, IsReported}
use Rattle.chains.proofs.Unfailing.{failure_is_other, of_admission}
use Rattle.desk.specs.Files.{UsesDevice}
use Rattle.desk.specs.Records.{said_of, IsRecordOf, Admits}
use Rattle.desk.specs.working.Parts.{IsFollowed}

passed_unknown : (fate : Fate) (held after : Held) (m : MarkedReport) → IsReported false fate held m (Fail Unknown) after → Passes held m
passed_unknown fine held after m t = absurd (of_admission (Fail Unknown) (failure_is_other Unknown) held m t.0)
passed_unknown memory held after m t = absurd (let e = t.3 in cc)
passed_unknown before held after m t = absurd (let e = t.1 in cc)
passed_unknown unknown held after m t = t.0

admits_report : (held : Held) (m : MarkedReport) → Passes held m → HasSpelling (calls.Report (unmarked m.report)) → (after : Held) × Admits held (said_of m) after
admits_report held m passes spelled =
    (with_report held m, record { call = calls.Report (unmarked m.report); is_line = record { spelled = spelled; recorded = refl; line = refl }; admits = (passes, refl) })

report_followed : (k : Kept) (after : Held) (m : MarkedReport) (reply : Reply) (fate : Fate) → IsReported false fate (held_of k) m reply after
    → (UsesDevice reply → HasSpelling (calls.Report (unmarked m.report))) → IsFollowed (held_of k) (said_of m) reply
report_followed k after m (Fail Unknown) fate t spelled = admits_report (held_of k) m (passed_unknown fate (held_of k) after m t) (spelled tt)
report_followed k after m _ fate t spelled = tt

pub report_follows : (k : Kept) (stopped : Bool) (after : Held) (call : Call) (m : MarkedReport) (reply : Reply) → call ≡ calls.Report m → stopped ≡ false → ((fate : Fate) × IsReported stopped fate (held_with k stopped) m reply after)
    → (UsesDevice reply → HasSpelling (calls.Report (unmarked m.report))) → (one : Said) → IsRecordOf k.epoch call one → IsFollowed (held_of k) one reply
report_follows k true after call m reply is runs turn spelled one of_call = absurd (true≢false runs)
report_follows k false after call m reply is runs (fate, t) spelled one of_call =
    let same : one ≡ said_of m = subst (λ (c : Call). IsRecordOf k.epoch c one) is of_call in
    subst (λ (s : Said). IsFollowed (held_of k) s reply) (sym same) (report_followed k after m reply fate t spelled)
