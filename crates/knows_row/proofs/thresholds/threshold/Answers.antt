use Rattle.std.proofs.Common.{subst}
use Rattle.std.proofs.lemmas.Result.{IfOk-weaker}
use Rattle.knows_row.specs.Thresholds.{IsThreshold}
use Rattle.knows_row.proofs.Thresholding.{threshold_none}
use Rattle.knows_row.proofs.thresholds.threshold.Goals as goal

pub returns-then-from-to : goal.returns-then-from-to
returns-then-from-to c = IfOk-weaker c.no_bound.result _ _ (λ t none.
    subst (λ to. IsThreshold c.args.chains.now.accepted c.args.process c.args.from to t) c.if-from-to.true (threshold_none c.args.chains.now.accepted c.args.process c.args.from t none)) c.no_bound.ensures
