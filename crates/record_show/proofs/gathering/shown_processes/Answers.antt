use Rattle.std.proofs.Common.{arith}
use Rattle.record_show.proofs.Listed.{shown_more}
use Rattle.record_show.proofs.gathering.shown_processes.Goals as goal

pub loop-process-preserved : goal.loop-process-preserved
loop-process-preserved c =
    shown_more c.args.chains.now.accepted c.loop-process.process c.in_ok-shown.field-0 c.loop-process.processes.items _ (omega (arith, c.loop-process-test.true, c.count-process-end.ensures)) c.loop-process.invariant
    c.in_ok-shown.ensures c.in_ok-push.ensures.items
