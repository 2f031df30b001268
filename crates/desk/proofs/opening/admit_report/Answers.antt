use Rattle.std.proofs.Common.{sym, ◌∙◌}
use Rattle.std.proofs.lemmas.Bool.{true≢false}
use Rattle.chains.specs.Held.{held_of}
use Rattle.desk.proofs.Admitting.{refuses_report}
use Rattle.desk.proofs.opening.admit_report.Goals as goal

pub returns-in-Err-clause-err : goal.returns-in-Err-clause-err
returns-in-Err-clause-err c =
    let not = rw c.deref.ensures at c.begins_in_other_epoch.ensures in
    refuses_report (held_of c.args.chains.now) c.args.number c.args.epoch c.args.report c.in-Err.refusal c.fault_of.result _ c.if-report-ne0.false
    (λ both. true≢false (sym (not.1 both) ∙ c.if-begins_in_other_epoch.false)) c.in-Err.ensures.turn c.fault_of.ensures
