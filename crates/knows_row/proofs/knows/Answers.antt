use Rattle.knows_row.proofs.Looking.{knows_none}
use Rattle.knows_row.proofs.Thresholding.{elements_are_rising}
use Rattle.knows_row.proofs.knows.Goals as goal

pub returns-in-None : goal.returns-in-None
returns-in-None c = rw c.in-At.is (knows_none c.args.chains.now.accepted c.args.place c.args.process c.in-At.k c.in-None.ensures)

pub is_beyond_from-requires : goal.is_beyond_from-requires
is_beyond_from-requires c = rw c.elements.ensures (elements_are_rising c.args.chains.now.accepted c.args.process c.recall_lawful.ensures.folded)
