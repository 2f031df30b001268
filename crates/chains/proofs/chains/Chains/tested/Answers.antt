use Rattle.std.proofs.Common.{Err, sym, subst}
use Rattle.chains.specs.declared.refusal.No.{No}
use Rattle.chains.specs.Held.{held_of}
use Rattle.chains.specs.Admission.{IsReportReply}
use Rattle.chains.specs.working.Keeping.{Tests}
use Rattle.chains.proofs.chains.Chains.tested.Goals as goal

pub returns-in-Err : goal.returns-in-Err
returns-in-Err c =
    subst (λ (x : No). Tests (IsReportReply (held_of c.args.self.now) c.args.epoch c.args.report.now) c.args.self.now.front (Err x)) (sym c.named.ensures) c.in-Err.ensures
