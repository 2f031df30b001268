use Rattle.std.proofs.Common.{refl}
use Rattle.event_tree.proofs.Places.{leaf_written}
use Rattle.event_tree.proofs.layout.in_place.put_leaf.Goals as goal

pub returns-clause-written : goal.returns-clause-written
returns-clause-written c = leaf_written _ _ _ _ c.args.n c.requires refl refl
