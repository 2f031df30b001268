use Rattle.std.proofs.Common.{◌∙◌}
use Rattle.event_tree.proofs.Preorder.{is_preorder, tree_of_preorder}
use Rattle.event_tree.proofs.Sequences.{fronts, first_within, first_taken}
use Rattle.event_tree.proofs.layout.adjacent.Sequence.first.Goals as goal

pub split_at-requires : goal.split_at-requires
split_at-requires c = first_within _ _ (fronts _ _ c.self.invariant.are (rw (← c.self.view_is) at c.requires))

pub of-requires : goal.of-requires
of-requires c = is_preorder _ _ (first_taken _ _ _ (fronts _ _ c.self.invariant.are (rw (← c.self.view_is) at c.requires)) c.split_at.ensures.front)

pub returns : goal.returns
returns c = rw (← c.self.view_is) (c.of.ensures ∙ tree_of_preorder _ _ (first_taken _ _ _ (fronts _ _ c.self.invariant.are (rw (← c.self.view_is) at c.requires)) c.split_at.ensures.front))
