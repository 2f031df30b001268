-- The meet of two event trees: the lesser value at each point, as the join is the greater one (this project's own).
use Rattle.std.specs.Prelude.{◌≡◌, min}
use Rattle.id_tree.specs.Points.{Point}
use Rattle.event_tree.specs.EventTree.{EventTree}
use Rattle.event_tree.specs.Values.{value_at}

-- g has the lesser value of e and f at each point
abbrev pub IsMeet : EventTree → EventTree → EventTree → Type 0
IsMeet e f g = (p : Point) → value_at g p ≡ min (value_at e p) (value_at f p)
