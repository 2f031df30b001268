use Rattle.process.proofs.LeafParts.{leaf_told}
use Rattle.process.proofs.carving.deepest_of.Goals as goal

pub returns-clause-leaf : goal.returns-clause-leaf
returns-clause-leaf c = leaf_told c.view.result c.args.id.now c.args.depth c.deepest_within.result c.view.ensures c.deepest_within.ensures.depth
