-- The normal join of two event trees is one.
use Rattle.std.proofs.Common.{◌≡◌, sym, ◌∙◌}
use Rattle.event_tree.specs.EventTree.{EventTree}
use Rattle.event_tree.proofs.Trees.{equal_values}
use Rattle.stamp.specs.Operations.{IsNormalJoin}

pub one_join : (e f g h : EventTree) → IsNormalJoin e f g → IsNormalJoin e f h → g ≡ h
one_join e f g h one two = equal_values g h one.normal two.normal (λ p. one.join p ∙ sym (two.join p))
