use Rattle.propagate.proofs.Placing.{few_ranks}
use Rattle.propagate.proofs.places.last_surviving_rank.Goals as goal

pub returns-in-At-clause-at_most : goal.returns-in-At-clause-at_most
returns-in-At-clause-at_most c =
    few_ranks c.args.chains.now.accepted c.args.failed.now c.args.process c.in-At.k c.last_surviving.result c.recall_lawful.ensures.at_most c.last_surviving.ensures c.in-At.is
