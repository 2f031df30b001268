use Rattle.chains.specs.Positions.{last_rank}
use Rattle.knows_row.proofs.Lasts.{one_more}
use Rattle.knows_row.proofs.ranks.last_ranks.Goals as goal

pub loop-process-preserved : goal.loop-process-preserved
loop-process-preserved c = rw c.in_ok-push.ensures.items
    (one_more (last_rank c.args.chains.now.accepted) c.loop-process.ranks.items c.loop-process.process c.last_rank.result c.loop-process.invariant c.last_rank.ensures)
