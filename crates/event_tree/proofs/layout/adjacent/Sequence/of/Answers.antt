use Rattle.event_tree.proofs.Sequences.{alone}
use Rattle.event_tree.proofs.layout.adjacent.Sequence.of.Goals as goal

pub invariant_of-result : goal.invariant_of-result
invariant_of-result c = (alone _ _ c.entries.ensures.are).0

pub returns : goal.returns
returns c = (alone _ _ c.entries.ensures.are).1
