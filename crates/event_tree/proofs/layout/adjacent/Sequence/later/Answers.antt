use Rattle.event_tree.proofs.Sequences.{fronts, first_within, later_left, are_preorders}
use Rattle.event_tree.proofs.layout.adjacent.Sequence.later.Goals as goal

pub split_at-requires : goal.split_at-requires
split_at-requires c = first_within _ _ (fronts _ _ c.self.invariant.are (rw (← c.self.view_is) at c.requires))

pub invariant_of-result : goal.invariant_of-result
invariant_of-result c = (are_preorders _ _ (later_left _ _ _ (fronts _ _ c.self.invariant.are (rw (← c.self.view_is) at c.requires)) c.split_at.ensures.back)).0

pub returns : goal.returns
returns c = rw (← c.self.view_is) (are_preorders _ _ (later_left _ _ _ (fronts _ _ c.self.invariant.are (rw (← c.self.view_is) at c.requires)) c.split_at.ensures.back)).1
