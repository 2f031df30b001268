use Rattle.chains.proofs.Copying.{views_more}
use Rattle.chains.proofs.copies.copy_processes.Goals as goal

pub loop-process-preserved : goal.loop-process-preserved
loop-process-preserved c =
    rw c.in_ok-push.ensures.items (views_more c.args.processes.now c.loop-process.copy.items c.loop-process.process-index c.process-item.result c.in_ok-same.same c.loop-process-test.true c.process-item.is c.in_ok-same.ensures c.loop-process.invariant)
