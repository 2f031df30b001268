use Rattle.std.proofs.Common.{arith, map}
use Rattle.reasons.specs.CertificateText.{bracketed, place_text}
use Rattle.reasons.proofs.Writing.{one_more}
use Rattle.reasons.proofs.text.put_reasons.Goals as goal

pub loop-i-preserved : goal.loop-i-preserved
loop-i-preserved c =
    one_more (λ chain. bracketed (map (place_text c.args.chains.now.accepted) chain)) c.args.reasons.now c.loop-i.i c.index-reasons-i.result _ _ _ _ (omega (arith, c.loop-i-test.true)) c.loop-i.invariant c.in_ok-put_comma.ensures (rw (c.as_slice.ensures, c.index-reasons-i.is) at c.in_ok-put_places.ensures)
