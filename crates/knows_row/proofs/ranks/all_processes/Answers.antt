use Rattle.knows_row.proofs.Lasts.{all_more}
use Rattle.knows_row.proofs.ranks.all_processes.Goals as goal

pub loop-process-preserved : goal.loop-process-preserved
loop-process-preserved c = rw c.in_ok-push.ensures.items (all_more c.loop-process.all.items c.loop-process.process c.loop-process.invariant)
