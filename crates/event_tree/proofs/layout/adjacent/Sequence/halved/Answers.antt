use Rattle.event_tree.specs.working.Entries.{trees_of}
use Rattle.event_tree.specs.working.Sequences.{halved as halves}
use Rattle.event_tree.proofs.Sequences.{halves_left, are_preorders}
use Rattle.event_tree.proofs.layout.adjacent.Sequence.halved.Goals as goal

pub invariant_of-result : goal.invariant_of-result
invariant_of-result c =
    (are_preorders _ (halves (trees_of c.self.inside.entries.now)) (halves_left _ _ _ c.self.invariant.are (rw (← c.self.view_is) at c.requires) c.split_at.ensures.back)).0

pub returns : goal.returns
returns c =
    rw (← c.self.view_is) (are_preorders _ (halves (trees_of c.self.inside.entries.now)) (halves_left _ _ _ c.self.invariant.are (rw (← c.self.view_is) at c.requires) c.split_at.ensures.back)).1
