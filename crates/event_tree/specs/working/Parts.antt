-- What a look at a part of an event tree shows.
use Rattle.std.specs.Prelude.{◌≡◌}
use Rattle.event_tree.specs.EventTree as trees
use Rattle.event_tree.specs.EventTree.{EventTree}
use Rattle.event_tree.specs.declared.layout.view.EventPart.{EventPart}
use Rattle.event_tree.specs.declared.layout.view.EventPart.TheVariants.{Leaf, Node}

-- the part is a leaf, or a node of these halves
abbrev pub ShowsEvents : EventPart → EventTree → Type 0
ShowsEvents (Leaf n) e = e ≡ trees.Leaf n
ShowsEvents (Node n a b) e = e ≡ trees.Node n a b
