use Rattle.std.proofs.Common.{arith}
use Rattle.coordinator.proofs.Certifying.{below_more, all_failed, not_failed}
use Rattle.coordinator.proofs.shown_lines.is_for_all.Goals as goal

pub returns-then-not-has_number : goal.returns-then-not-has_number
returns-then-not-has_number c =
    not_failed c.args.chains.now.accepted c.as_slice-failed.result.now c.args.certificate.now c.loop-process.process c.has_number.result c.as_slice-failed.ensures (omega (arith, c.count-process-end.ensures)) c.has_number.ensures
    c.if-not-has_number.true

pub loop-process-preserved : goal.loop-process-preserved
loop-process-preserved c = below_more c.as_slice-failed.result.now c.loop-process.process c.loop-process.invariant (c.has_number.ensures.0 c.if-not-has_number.false)

pub returns : goal.returns
returns c =
    all_failed c.args.chains.now.accepted c.as_slice-failed.result.now c.args.certificate.now c.loop-process.process c.as_slice-failed.ensures (omega (arith, c.count-process-end.ensures)) c.loop-process.invariant
