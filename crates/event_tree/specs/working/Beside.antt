-- A tree restricted to one part alone, and its entries from the top down.
use Rattle.std.specs.Prelude.{◌≡◌, ℕ, suc, ◌+◌, ◌-◌, Bool, true, false, List, [], ◌∷◌, ◌++◌, length, take, replicate}
use Rattle.id_tree.specs.Points.{Point}
use Rattle.event_tree.specs.EventTree.{EventTree, Leaf, Node}
use Rattle.event_tree.specs.Halves.{root, left, right}
use Rattle.event_tree.specs.Size.{size}
use Rattle.event_tree.specs.working.Entries.{entry, preorder}
use Rattle.event_tree.specs.declared.layout.entries.Entry.{Entry}

-- the half that a turn leads to
abbrev pub half_of : Bool → EventTree → EventTree
half_of false e = left e
half_of true e = right e

-- the part at the end of a way, and x with the bases above that part
abbrev pub part_at : Point → EventTree → EventTree
part_at [] e = e
part_at (turn ∷ p) e = part_at p (half_of turn e)

abbrev pub base_at : Point → ℕ → EventTree → ℕ
base_at [] x e = x
base_at (turn ∷ p) x e = base_at p (x + root e) (half_of turn e)

-- the same tree with the value v at its root
abbrev pub rooted : ℕ → EventTree → EventTree
rooted v (Leaf n) = Leaf v
rooted v (Node n a b) = Node v a b

-- t at the end of a way with a leaf k beside each node of the way; v at the root of the whole, and 0 at those below
abbrev pub beside : Point → ℕ → ℕ → EventTree → EventTree
beside [] v k t = rooted v t
beside (false ∷ p) v k t = Node v (beside p 0 k t) (Leaf k)
beside (true ∷ p) v k t = Node v (Leaf k) (beside p 0 k t)

abbrev pub size_beside : Point → EventTree → ℕ
size_beside [] t = size t
size_beside (turn ∷ p) t = size_beside p t + 2

-- the entries that stand before the half that a turn leads to
abbrev pub level : Bool → Entry → ℕ → List Entry
level false own k = own ∷ []
level true own k = own ∷ entry k 1 ∷ []

-- the entries of the whole as far as t goes
abbrev pub down : Point → ℕ → ℕ → EventTree → List Entry
down [] v k t = preorder (rooted v t)
down (turn ∷ p) v k t = level turn (entry v (size_beside p t + 2)) k ++ down p 0 k t

-- and those behind it: a leaf for each turn to the left
abbrev pub left_turns : Point → ℕ
left_turns [] = 0
left_turns (false ∷ p) = suc (left_turns p)
left_turns (true ∷ p) = left_turns p

abbrev pub leaves : ℕ → ℕ → List Entry
leaves n k = replicate n (entry k 1)

-- how many entries a level has
abbrev pub width : Bool → ℕ
width false = 1
width true = 2

-- The entries stand there up to one place, and behind it are leaves k; with the rest that is still to be written they are those of the
-- whole.
pub record IsHalfway (out : List Entry) (at k : ℕ) (rest whole : List Entry) : Type 0 where
  pub behind : out ≡ take at out ++ leaves (length out - at) k
  pub are : take at out ++ rest ≡ whole
