-- The walks of the code, by cases in its order.
use Rattle.std.specs.Prelude.{ℕ, ◌≡◌, ◌+◌, ◌≤◌, min, max}
use Rattle.id_tree.specs.IdTree.{IdTree, Zero, One, Pair}
use Rattle.event_tree.specs.EventTree.{EventTree, Leaf, Node}
use Rattle.event_tree.specs.NormalForm.{least, greatest, value_limit}
use Rattle.event_tree.specs.Halves.{root, left, right}
use Rattle.event_tree.specs.Norm.{lifted, normal_node}
use Rattle.event_tree.specs.Event.{Cost}
use Rattle.event_tree.specs.declared.event.grow.GrowthCost.{GrowthCost}
use Rattle.event_tree.specs.declared.joins.Pick.{Pick}
use Rattle.event_tree.specs.declared.joins.Pick.TheVariants.{Greater, Lesser}

-- what is taken of two values
abbrev pub pick : Pick → ℕ → ℕ → ℕ
pick Greater m n = max m n
pick Lesser m n = min m n

-- f above the base y, with k in place of each value that is not picked
abbrev pub clipped : Pick → ℕ → ℕ → EventTree → EventTree
clipped c k y (Leaf n) = Leaf (pick c k (y + n))
clipped c k y (Node n a b) = normal_node 0 (clipped c k (y + n) a) (clipped c k (y + n) b)

-- what is picked of e above the base x and f above the base y
abbrev pub combined_from : Pick → ℕ → EventTree → ℕ → EventTree → EventTree
combined_from c x (Leaf m) y f = clipped c (x + m) y f
combined_from c x (Node m a b) y f = normal_node 0 (combined_from c (x + m) a (y + root f) (left f)) (combined_from c (x + m) b (y + root f) (right f))

-- e above the base x where the id owns, and the limit elsewhere
abbrev pub restricted_from : IdTree → ℕ → EventTree → EventTree
restricted_from Zero x e = Leaf value_limit
restricted_from One x e = lifted x e
restricted_from (Pair l r) x e = normal_node 0 (restricted_from l (x + root e) (left e)) (restricted_from r (x + root e) (right e))

-- the node of two halves that are filled
abbrev pub filled_node : IdTree → IdTree → ℕ → EventTree → EventTree → EventTree
filled_node One r n a b = normal_node n (Leaf (max (greatest a) (least b))) b
filled_node l One n a b = normal_node n a (Leaf (max (greatest b) (least a)))
filled_node l r n a b = normal_node n a b

-- its halves, before the node is made normal
abbrev pub left_raised : IdTree → IdTree → EventTree → EventTree → EventTree
left_raised One r a b = Leaf (max (greatest a) (least b))
left_raised l r a b = a

abbrev pub right_raised : IdTree → IdTree → EventTree → EventTree → EventTree
right_raised One r a b = b
right_raised l One a b = Leaf (max (greatest b) (least a))
right_raised l r a b = b

-- two halves that were filled: what is owned whole is a leaf, and each has its least value at its root
pub record AreFilled (l r : IdTree) (a b : EventTree) : Type 0 where
  pub left_leaf : l ≡ One → a ≡ Leaf (greatest a)
  pub right_leaf : r ≡ One → b ≡ Leaf (greatest b)
  pub left_least : root a ≡ least a
  pub right_least : root b ≡ least b

-- fill, of an id and a tree in normal form
abbrev pub filled : IdTree → EventTree → EventTree
filled Zero e = e
filled One e = Leaf (greatest e)
filled (Pair l r) (Leaf n) = Leaf n
filled (Pair l r) (Node n a b) = filled_node l r n (filled l a) (filled r b)

-- filling leaves the tree as it is, and where all of it is owned it is at or above k
pub record IsFilled (k : ℕ) (i : IdTree) (e : EventTree) : Type 0 where
  pub kept : filled i e ≡ e
  pub above : i ≡ One → k ≤ root e

abbrev pub cost_of : GrowthCost → Cost
cost_of c = record { opened = c.opened; levels = c.levels }
