use Rattle.event_tree.proofs.Preorder.{length_of_tree}
use Rattle.event_tree.proofs.layout.view.EventView.entries.Goals as goal

pub returns-clause-size : goal.returns-clause-size
returns-clause-size c = rw (← c.self.view_is) (length_of_tree c.self.inside.entries.now c.self.invariant)
