use Rattle.propagate.proofs.Keepable.{can_be_kept}
use Rattle.propagate.proofs.settlement.settle.Goals as goal

-- the greatest cut can be kept
pub keep_fit-requires : goal.keep_fit-requires
keep_fit-requires c = can_be_kept c.args.chains.now.accepted c.args.failed.now c.in_ok-line.line c.recall_lawful.ensures.folded c.in_ok-line.ensures.in_order c.in_ok-line.ensures.line
