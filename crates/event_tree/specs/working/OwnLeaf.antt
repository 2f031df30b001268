-- What a tree has where an id owns one part alone: a leaf at or above the root of the half beside it, a leaf that the way there goes
-- on below, or what is not filled, which is a node, or a leaf below that root. In normal form the root of a half is its least value.
use Rattle.std.specs.Prelude.{◌≡◌, ◌≤◌, ◌<◌, ◌+◌, ℕ, Bool, true, false, [], ◌∷◌, ⊤}
use Rattle.id_tree.specs.IdTree.{IdTree}
use Rattle.id_tree.specs.Points.{Point}
use Rattle.id_tree.specs.OneWay.{id_of_way}
use Rattle.event_tree.specs.EventTree.{EventTree, Leaf, Node}
use Rattle.event_tree.specs.Halves.{root, left, right}
use Rattle.event_tree.specs.Size.{size}
use Rattle.event_tree.specs.working.Beside.{half_of, part_at, base_at}
use Rattle.event_tree.specs.declared.event.one_part.OwnLeaf.{OwnLeaf}
use Rattle.event_tree.specs.declared.event.one_part.Below.{Below}
use Rattle.event_tree.specs.declared.event.one_part.Found.{Found}
use Rattle.event_tree.specs.declared.event.one_part.Found.TheVariants.{Own, Above, Unfilled}

-- the half beside the one that a turn leads to, and how many entries stand before that one
abbrev pub other_of : Bool → EventTree → EventTree
other_of false e = right e
other_of true e = left e

abbrev pub before : Bool → EventTree → ℕ
before false e = 1
before true e = size (left e) + 1

-- where the entry of the part at the end of a way stands
abbrev pub place_at : Point → EventTree → ℕ
place_at [] e = 0
place_at (turn ∷ p) e = before turn e + place_at p (half_of turn e)

-- The way goes by nodes, and at its end stands a leaf. It is at or above k, if the way has no turn, and else at or above the root of the
-- half beside it.
abbrev pub EndsAtLeaf : ℕ → Point → EventTree → Type 0
EndsAtLeaf k [] (Leaf n) = k ≤ n
EndsAtLeaf k [] (Node n a b) = ⊥
EndsAtLeaf k (turn ∷ p) (Leaf n) = ⊥
EndsAtLeaf k (turn ∷ p) (Node n a b) = EndsAtLeaf (root (other_of turn (Node n a b))) p (half_of turn (Node n a b))

-- the way goes on below a leaf
abbrev pub EndsAbove : Point → EventTree → Type 0
EndsAbove [] e = ⊥
EndsAbove (turn ∷ p) (Leaf n) = ⊤
EndsAbove (turn ∷ p) (Node n a b) = EndsAbove p (half_of turn (Node n a b))

-- The way goes by nodes, and at its end stands a node, or a leaf that is below k, if the way has no turn, and else below the root of the
-- half beside it.
abbrev pub EndsUnfilled : ℕ → Point → EventTree → Type 0
EndsUnfilled k [] (Leaf n) = n < k
EndsUnfilled k [] (Node n a b) = ⊤
EndsUnfilled k (turn ∷ p) (Leaf n) = ⊥
EndsUnfilled k (turn ∷ p) (Node n a b) = EndsUnfilled (root (other_of turn (Node n a b))) p (half_of turn (Node n a b))

-- the tree is a node, and this is the half that a turn leads to
pub record IsBelow (turn : Bool) (e : EventTree) (b : Below) : Type 0 where
  pub base : b.base ≡ root e
  pub before_is : b.before ≡ before turn e
  pub beside : b.beside ≡ root (other_of turn e)
  pub half : b.half ≡ half_of turn e
  pub node : e ≡ Node (root e) (left e) (right e)

-- this is the leaf at the end of the way, which is not below the root of the half beside it
pub record IsEndOf (p : Point) (e : EventTree) (leaf : OwnLeaf) : Type 0 where
  pub ends : EndsAtLeaf 0 p e
  pub at_is : leaf.at ≡ place_at p e
  pub base_is : leaf.base ≡ base_at p 0 e
  pub own_is : leaf.own ≡ root (part_at p e)

-- the same for the way to the one part that the id owns
pub record IsOwnLeaf (i : IdTree) (e : EventTree) (leaf : OwnLeaf) : Type 0 where
  pub way : Point
  pub alone : i ≡ id_of_way way
  pub end_of : IsEndOf way e leaf

-- this is what the tree has where the way leads to
abbrev pub IsThere : Point → EventTree → Found → Type 0
IsThere p e (Own leaf) = IsEndOf p e leaf
IsThere p e Above = EndsAbove p e
IsThere p e Unfilled = EndsUnfilled 0 p e

-- the id owns one part alone, and this is what the tree has there
pub record IsOwnPart (i : IdTree) (e : EventTree) (f : Found) : Type 0 where
  pub way : Point
  pub alone : i ≡ id_of_way way
  pub there : IsThere way e f
