-- An absorption that joins first, and then makes an event on the sum of the ids (1;3 in place of 1;(2,2,0)).
use Rattle.id_tree.specs.IdTree.{IdTree, Zero, One, Pair}
use Rattle.event_tree.specs.EventTree.{EventTree, Leaf, Node}
use Rattle.event_tree.specs.Event.{IsEventStep}
use Rattle.event_tree.specs.Grown.{IsGrown}
use Rattle.event_tree.specs.Join.{IsJoin}

-- (1,0);(1,2,0) absorbs (0,1);(1,0,1)
abbrev pub own_id : IdTree
own_id = Pair One Zero

abbrev pub own_events : EventTree
own_events = Node 1 (Leaf 2) (Leaf 0)

abbrev pub retired_events : EventTree
retired_events = Node 1 (Leaf 0) (Leaf 1)

-- The join is (2,1,0), and the event of everything fills it to 3.
abbrev pub JoinsFirstToThree : Type 0
JoinsFirstToThree = IsJoin own_events retired_events (Node 2 (Leaf 1) (Leaf 0)) × IsEventStep One (Node 2 (Leaf 1) (Leaf 0)) (Leaf 3)

-- But 3 is no join of the retired events with own ones that grew, however they grew.
abbrev pub ThreeIsNotLawful : Type 0
ThreeIsNotLawful = (between : EventTree) → IsGrown own_id own_events between → IsJoin between retired_events (Leaf 3) → ⊥
