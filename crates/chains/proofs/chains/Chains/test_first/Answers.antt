use Rattle.std.proofs.Common.{◌≡◌, ◌≢◌, ℕ, subst, sym, ◌∙◌}
use Rattle.std.specs.Prelude.{IfOk}
use Rattle.std.specs.Fmt.{decimal}
use Rattle.report_line.specs.declared.code.Code.TheVariants.{OtherEpoch}
use Rattle.report_line.specs.declared.report.Report.TheVariants.{Begin}
use Rattle.chains.specs.Held.{held_of}
use Rattle.chains.specs.Admission.{FitsOrNot}
use Rattle.chains.proofs.Tested.{refuses}
use Rattle.chains.proofs.chains.Chains.test_first.Goals as goal

pub returns-then-epoch : goal.returns-then-epoch
returns-then-epoch c =
    let held = held_of c.args.self.now in
    let refusal = c.refusal_with.result in
    let same : c.epoch-then-epoch.result ≡ held.epoch = c.epoch-then-epoch.ensures in
    refuses (c.args.epoch ≢ held.epoch) (FitsOrNot held (Begin c.args.name.now)) held.front refusal OtherEpoch c.args.name.now (decimal held.epoch) c.number_text.result c.refusal_with.ensures
    (subst (λ (m : ℕ). IfOk c.number_text.result (λ t. t ≡ decimal m)) same c.number_text.ensures) (λ e. c.if-epoch.true (c.epoch.ensures ∙ sym e))
