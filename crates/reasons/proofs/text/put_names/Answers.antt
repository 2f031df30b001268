use Rattle.std.proofs.Common.{arith}
use Rattle.reasons.specs.CertificateText.{quoted, shown_name}
use Rattle.reasons.proofs.Writing.{one_more}
use Rattle.reasons.proofs.text.put_names.Goals as goal

pub loop-i-preserved : goal.loop-i-preserved
loop-i-preserved c =
    one_more (λ p. quoted (shown_name c.args.chains.now.accepted p)) c.args.numbers.now c.loop-i.i _ _ _ _ _ (omega (arith, c.loop-i-test.true)) c.loop-i.invariant c.in_ok-put_comma.ensures c.in_ok-put_name.ensures
