-- Several trees one after the other.
use Rattle.std.specs.Prelude.{◌≡◌, List, [], ◌∷◌, ◌++◌}
use Rattle.event_tree.specs.EventTree.{EventTree}
use Rattle.event_tree.specs.working.Entries.{preorder, first, later, trees_of}
use Rattle.event_tree.specs.Halves.{left, right}
use Rattle.event_tree.specs.declared.layout.entries.Entry.{Entry}

-- the entries of several trees, one after the other
abbrev pub preorders : List EventTree → List Entry
preorders [] = []
preorders (t ∷ ts) = preorder t ++ preorders ts

-- they are those of whole trees
pub record ArePreorders (es : List Entry) : Type 0 where
  pub are : es ≡ preorders (trees_of es)

-- the halves of the first tree in its place
abbrev pub halved : List EventTree → List EventTree
halved ts = left (first ts) ∷ right (first ts) ∷ later ts
