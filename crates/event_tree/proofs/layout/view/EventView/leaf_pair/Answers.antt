use Rattle.std.proofs.Common.{arith}
use Rattle.event_tree.proofs.Preorder.{is_pair}
use Rattle.event_tree.proofs.layout.view.EventView.leaf_pair.Goals as goal

pub bounds-self-inside-1 : goal.bounds-self-inside-1
bounds-self-inside-1 c = omega (arith, (is_pair _ _ c.self.invariant.are c.if-entry-eq3.true).within)

pub bounds-self-inside-2 : goal.bounds-self-inside-2
bounds-self-inside-2 c = (is_pair _ _ c.self.invariant.are c.if-entry-eq3.true).within

pub returns-then-entry-eq3 : goal.returns-then-entry-eq3
returns-then-entry-eq3 c = rw (← c.self.view_is) (is_pair _ _ c.self.invariant.are c.if-entry-eq3.true).node
