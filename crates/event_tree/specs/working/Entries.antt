-- How an event tree is kept, as its nodes and leaves in preorder.
use Rattle.std.specs.Prelude.{◌≡◌, ℕ, ◌+◌, ◌<◌, nat_le, max, cond, List, [], ◌∷◌, ◌++◌, length}
use Rattle.event_tree.specs.EventTree.{EventTree, Leaf, Node}
use Rattle.event_tree.specs.NormalForm.{greatest}
use Rattle.event_tree.specs.Size.{size}
use Rattle.event_tree.specs.declared.layout.entries.Entry.{Entry}

abbrev pub entry : ℕ → ℕ → Entry
entry n s = record { value = n; size = s }

abbrev pub blank : Entry
blank = entry 0 0

-- an entry for each node and leaf: a node, then its left half, then its right half
abbrev pub preorder : EventTree → List Entry
preorder (Leaf n) = entry n 1 ∷ []
preorder (Node n a b) = entry n (size a + size b + 1) ∷ (preorder a ++ preorder b)

-- the first of some trees, where the leaf 0 stands in for one that is missing
abbrev pub first : List EventTree → EventTree
first [] = Leaf 0
first (t ∷ ts) = t

abbrev pub later : List EventTree → List EventTree
later [] = []
later (t ∷ ts) = ts

-- the trees behind an entry, with its own
abbrev pub with_entry : Entry → List EventTree → List EventTree
with_entry e ts = cond (nat_le e.size 1) (Leaf e.value ∷ ts) (Node e.value (first ts) (first (later ts)) ∷ later (later ts))

-- the trees that entries stand for, one after the other
abbrev pub trees_of : List Entry → List EventTree
trees_of [] = []
trees_of (e ∷ es) = with_entry e (trees_of es)

abbrev pub tree_of : List Entry → EventTree
tree_of es = first (trees_of es)

-- they are those of one whole tree
pub record IsPreorder (es : List Entry) : Type 0 where
  pub are : es ≡ preorder (tree_of es)

-- the entries end in a node: an entry at start, whatever it says, and the two halves behind it
pub record EndsInHalves (es : List Entry) (start middle n : ℕ) : Type 0 where
  pub front : List Entry
  pub mark : Entry
  pub one : EventTree
  pub other : EventTree
  pub begins : length front ≡ start
  pub halved : middle ≡ start + 1 + size one
  pub are : es ≡ front ++ mark ∷ (preorder one ++ preorder other)
  pub fits : n + max (greatest one) (greatest other) < 4294967296
