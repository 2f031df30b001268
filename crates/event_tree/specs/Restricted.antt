-- A tree where an id owns, and the limit of values elsewhere: what a tree must not pass to exceed it nowhere on the id (this
-- project's own).
use Rattle.std.specs.Prelude.{◌≡◌, false, IsTrue}
use Rattle.id_tree.specs.IdTree.{IdTree}
use Rattle.id_tree.specs.Points.{Point, owns}
use Rattle.event_tree.specs.EventTree.{EventTree}
use Rattle.event_tree.specs.Values.{value_at}
use Rattle.event_tree.specs.NormalForm.{value_limit}

-- f has the value of e at each point that i owns, and elsewhere the limit
pub record IsRestricted (i : IdTree) (e f : EventTree) : Type 0 where
  pub owned : (p : Point) → IsTrue (owns i p) → value_at f p ≡ value_at e p
  pub elsewhere : (p : Point) → owns i p ≡ false → value_at f p ≡ value_limit
