use Rattle.std.proofs.Common.{refl}
use Rattle.event_tree.proofs.Closed.{leaves_one}
use Rattle.event_tree.proofs.Places.{leaves_written}
use Rattle.event_tree.proofs.layout.in_place.put_leaves.Goals as goal

pub returns-then-m-n-clause-written : goal.returns-then-m-n-clause-written
returns-then-m-n-clause-written c = rw (leaves_one c.args.m c.args.n c.if-m-n.true) c.put_leaf.ensures.written

pub returns-clause-written : goal.returns-clause-written
returns-clause-written c = leaves_written c.args.out.now _ _ _ c.args.start c.args.m c.args.n c.min-k.result c.requires c.if-m-n.false c.min-k.ensures refl refl refl
