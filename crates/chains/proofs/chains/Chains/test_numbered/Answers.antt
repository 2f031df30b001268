use Rattle.std.proofs.Common.{◌≡◌, ◌≢◌, ℕ, Err, subst, sym, ◌∙◌}
use Rattle.std.specs.Prelude.{IfOk}
use Rattle.std.specs.Fmt.{decimal}
use Rattle.report_line.specs.declared.code.Code.TheVariants.{OtherEpoch}
use Rattle.report_line.specs.View.{numbered_of}
use Rattle.chains.specs.Processes.{target_of}
use Rattle.chains.specs.Held.{held_of}
use Rattle.chains.specs.Admission.{IsStandingReply}
use Rattle.chains.proofs.Tested.{not_last, refuses}
use Rattle.chains.proofs.chains.Chains.test_numbered.Goals as goal

pub returns-then-epoch : goal.returns-then-epoch
returns-then-epoch c =
    let held = held_of c.args.self.now in
    let r = numbered_of c.args.fields in
    let refusal = c.refusal_with.result in
    let same : c.epoch-then-epoch.result ≡ held.epoch = c.epoch-then-epoch.ensures in
    not_last held c.args.epoch c.args.report.now r (Err refusal) c.is_last.result c.if-is_last.false (c.is_last.ensures r.process c.requires.place) c.requires.fields
    (refuses (c.args.epoch ≢ held.epoch) (IsStandingReply (target_of r.process held.accepted) held r) held.front refusal OtherEpoch r.process (decimal held.epoch) c.number_text.result c.refusal_with.ensures
    (subst (λ (m : ℕ). IfOk c.number_text.result (λ t. t ≡ decimal m)) same c.number_text.ensures) (λ e. c.if-epoch.true (e ∙ sym c.epoch.ensures)))
