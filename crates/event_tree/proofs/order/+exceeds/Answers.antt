use Rattle.std.proofs.Common.{◌∙◌, sym}
use Rattle.id_tree.specs.IdTree.{Pair}
use Rattle.event_tree.proofs.Orders.{below_exceeds_nowhere}
use Rattle.event_tree.proofs.order.+exceeds.Goals as goal

pub exceeds_in_halves-returns-then-is_leaf_below : goal.exceeds_in_halves-returns-then-is_leaf_below
exceeds_in_halves-returns-then-is_leaf_below t c =
    sym (c.loop-l.invariant.same ∙ below_exceeds_nowhere (Pair c.loop-l.l c.loop-l.r) c.loop-l.x c.loop-l.e c.loop-l.y c.loop-l.f (c.is_leaf_below.ensures c.if-is_leaf_below.true))
