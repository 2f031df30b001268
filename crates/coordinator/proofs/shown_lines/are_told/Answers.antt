use Rattle.std.proofs.Common.{arith}
use Rattle.coordinator.proofs.Certifying.{flagged_all, flagged_not}
use Rattle.coordinator.proofs.shown_lines.are_told.Goals as goal

pub returns-then-not-is_told : goal.returns-then-not-is_told
returns-then-not-is_told c =
    flagged_not c.args.chains.now.accepted c.as_slice-failed.result.now c.args.named.now c.args.certificate.now c.loop-process.process c.is_told.result c.as_slice-failed.ensures (omega (arith, c.loop-process-test.true, c.count-process-end.ensures)) c.is_told.ensures c.if-not-is_told.true

pub returns : goal.returns
returns c =
    flagged_all c.args.chains.now.accepted c.as_slice-failed.result.now c.args.named.now c.args.certificate.now c.loop-process.process c.as_slice-failed.ensures (omega (arith, c.count-process-end.ensures)) c.loop-process.invariant
