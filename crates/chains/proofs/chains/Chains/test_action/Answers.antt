use Rattle.std.proofs.Common.{◌≡◌, sym, ap, subst}
use Rattle.report_line.specs.declared.report.ReportKind.{ReportKind}
use Rattle.report_line.specs.declared.report.ReportKind.TheVariants.{Fork}
use Rattle.report_line.specs.View.{action_of, numbered_of}
use Rattle.chains.specs.Held.{held_of}
use Rattle.chains.specs.Admission.{IsActionReply}
use Rattle.chains.specs.working.Keeping.{Tests}
use Rattle.chains.proofs.chains.Chains.test_action.Goals as goal

pub returns-in-Fork : goal.returns-in-Fork
returns-in-Fork c =
    let is : action_of c.args.fields.action ≡ Fork c.in-Fork.forked.now = ap action_of c.in-Fork.is in
    subst (λ (a : ReportKind). Tests (IsActionReply (held_of c.args.self.now) (numbered_of c.args.fields) a) c.args.self.now.front c.test_fork.result) (sym is) c.test_fork.ensures
