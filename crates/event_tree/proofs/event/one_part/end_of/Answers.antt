use Rattle.event_tree.proofs.Owned.{on_above, on_unfilled_leaf, on_unfilled_node}
use Rattle.event_tree.proofs.event.one_part.end_of.Goals as goal

pub returns-in_default-go_down : goal.returns-in_default-go_down
returns-in_default-go_down c = on_above _ _ _ _ _ _ _ _ _ c.in-Some.ensures c.in_default-go_down.ensures c.loop-turn.invariant

pub returns-else-beside-own : goal.returns-else-beside-own
returns-else-beside-own c = on_unfilled_leaf _ _ _ _ _ _ _ _ c.in_default.ensures c.in-Leaf.ensures c.if-beside-own.false c.loop-turn.invariant

pub returns-in-Node : goal.returns-in-Node
returns-in-Node c = on_unfilled_node _ _ _ _ _ _ _ _ _ _ c.in_default.ensures c.in-Node.ensures c.loop-turn.invariant
