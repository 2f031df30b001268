-- What the join and the meet of the code are.
use Rattle.std.proofs.Common.{◌≡◌, ℕ, ◌+◌, ◌-◌, ◌≤◌, max, true, false, [], ◌∷◌, refl, sym, ap, ◌∙◌, arith}
use Rattle.id_tree.specs.Points.{Point}
use Rattle.event_tree.specs.EventTree.{EventTree, Leaf, Node}
use Rattle.event_tree.specs.Values.{value_at}
use Rattle.event_tree.specs.NormalForm.{greatest, depth, IsNormal, IsEvents}
use Rattle.event_tree.specs.Halves.{root, left, right}
use Rattle.event_tree.specs.Norm.{lifted, normal_node}
use Rattle.event_tree.specs.Join.{IsJoin}
use Rattle.event_tree.specs.Meet.{IsMeet}
use Rattle.event_tree.specs.working.Walks.{pick, clipped, combined_from}
use Rattle.event_tree.specs.declared.joins.Pick.{Pick}
use Rattle.event_tree.specs.declared.joins.Pick.TheVariants.{Greater, Lesser}
use Rattle.event_tree.proofs.Trees.{value_at-nil, value_at-left, value_at-right, greatest_ge, greatest_below, least_le, root_least, equal_values}
use Rattle.event_tree.proofs.Normal.{value_at-normal_node, IsNormal-normal_node, depth-normal_node, IsNormal-lifted, value_at-lifted}

-- ---- the number that is picked

pub pick_within : (c : Pick) (m n : ℕ) → pick c m n ≤ max m n
pick_within Greater m n = omega arith
pick_within Lesser m n = omega arith

pick_same : (c : Pick) (k l m n : ℕ) → k ≡ m → l ≡ n → pick c k l ≡ pick c m n
pick_same c k l m n e f = rw (e, f) refl

pick_swapped : (c : Pick) (m n : ℕ) → pick c m n ≡ pick c n m
pick_swapped Greater m n = omega arith
pick_swapped Lesser m n = omega arith

-- ---- the values

at_nil : (a b : EventTree) → value_at (normal_node 0 a b) [] ≡ value_at a []
at_nil a b = omega (arith, value_at-normal_node 0 a b [])

at_left : (a b : EventTree) (p : Point) → value_at (normal_node 0 a b) (false ∷ p) ≡ value_at a p
at_left a b p = omega (arith, value_at-normal_node 0 a b (false ∷ p))

at_right : (a b : EventTree) (p : Point) → value_at (normal_node 0 a b) (true ∷ p) ≡ value_at b p
at_right a b p = omega (arith, value_at-normal_node 0 a b (true ∷ p))

pub value_at-clipped : (c : Pick) (k y : ℕ) (f : EventTree) (p : Point) → value_at (clipped c k y f) p ≡ pick c k (y + value_at f p)
value_at-clipped c k y (Leaf n) p = refl
value_at-clipped c k y (Node n a b) [] = at_nil _ _ ∙ value_at-clipped c k (y + n) a [] ∙ pick_same c k _ k _ refl (omega arith)
value_at-clipped c k y (Node n a b) (false ∷ p) = at_left _ _ p ∙ value_at-clipped c k (y + n) a p ∙ pick_same c k _ k _ refl (omega arith)
value_at-clipped c k y (Node n a b) (true ∷ p) = at_right _ _ p ∙ value_at-clipped c k (y + n) b p ∙ pick_same c k _ k _ refl (omega arith)

pub value_at-combined : (c : Pick) (x : ℕ) (e : EventTree) (y : ℕ) (f : EventTree) (p : Point) → value_at (combined_from c x e y f) p ≡ pick c (x + value_at e p) (y + value_at f p)
value_at-combined c x (Leaf m) y f p = value_at-clipped c (x + m) y f p
value_at-combined c x (Node m a b) y f [] =
    at_nil _ _ ∙ value_at-combined c (x + m) a (y + root f) (left f) [] ∙ pick_same c _ _ _ _ (omega arith) (omega (arith, value_at-nil f))
value_at-combined c x (Node m a b) y f (false ∷ p) =
    at_left _ _ p ∙ value_at-combined c (x + m) a (y + root f) (left f) p ∙ pick_same c _ _ _ _ (omega arith) (omega (arith, value_at-left f p))
value_at-combined c x (Node m a b) y f (true ∷ p) =
    at_right _ _ p ∙ value_at-combined c (x + m) b (y + root f) (right f) p ∙ pick_same c _ _ _ _ (omega arith) (omega (arith, value_at-right f p))

pub IsNormal-clipped : (c : Pick) (k y : ℕ) (f : EventTree) → IsNormal (clipped c k y f)
IsNormal-clipped c k y (Leaf n) = tt
IsNormal-clipped c k y (Node n a b) = IsNormal-normal_node 0 _ _ (IsNormal-clipped c k (y + n) a) (IsNormal-clipped c k (y + n) b)

pub IsNormal-combined : (c : Pick) (x : ℕ) (e : EventTree) (y : ℕ) (f : EventTree) → IsNormal (combined_from c x e y f)
IsNormal-combined c x (Leaf m) y f = IsNormal-clipped c (x + m) y f
IsNormal-combined c x (Node m a b) y f =
    IsNormal-normal_node 0 _ _ (IsNormal-combined c (x + m) a (y + root f) (left f)) (IsNormal-combined c (x + m) b (y + root f) (right f))

-- the walks stay within the greater of the two greatest values

pub greatest_clipped : (c : Pick) (k y : ℕ) (f : EventTree) → greatest (clipped c k y f) ≤ max k (y + greatest f)
greatest_clipped c k y f =
    greatest_below (max k (y + greatest f)) (clipped c k y f) (λ p. omega (arith, value_at-clipped c k y f p, pick_within c k (y + value_at f p), greatest_ge f p))

pub greatest_combined : (c : Pick) (x : ℕ) (e : EventTree) (y : ℕ) (f : EventTree) → greatest (combined_from c x e y f) ≤ max (x + greatest e) (y + greatest f)
greatest_combined c x e y f =
    greatest_below (max (x + greatest e) (y + greatest f)) (combined_from c x e y f)
    (λ p. omega (arith, value_at-combined c x e y f p, pick_within c (x + value_at e p) (y + value_at f p), greatest_ge e p, greatest_ge f p))

-- and are no deeper than the deeper tree

pub depth-halves : (e : EventTree) → (depth (left e) ≤ depth e - 1) × (depth (right e) ≤ depth e - 1)
depth-halves (Leaf n) = omega arith
depth-halves (Node n a b) = omega arith

depth-clipped : (c : Pick) (k y : ℕ) (f : EventTree) → depth (clipped c k y f) ≤ depth f
depth-clipped c k y (Leaf n) = omega arith
depth-clipped c k y (Node n a b) =
    omega (arith, depth-normal_node 0 (clipped c k (y + n) a) (clipped c k (y + n) b), depth-clipped c k (y + n) a, depth-clipped c k (y + n) b)

depth-combined : (c : Pick) (x : ℕ) (e : EventTree) (y : ℕ) (f : EventTree) → depth (combined_from c x e y f) ≤ max (depth e) (depth f)
depth-combined c x (Leaf m) y f = omega (arith, depth-clipped c (x + m) y f)
depth-combined c x (Node m a b) y f =
    let l = depth-combined c (x + m) a (y + root f) (left f) in
    let r = depth-combined c (x + m) b (y + root f) (right f) in
    omega (arith, l, r, depth-halves f, depth-normal_node 0 (combined_from c (x + m) a (y + root f) (left f)) (combined_from c (x + m) b (y + root f) (right f)))

pub join_is_pointwise : (e f : EventTree) → IsJoin e f (combined_from Greater 0 e 0 f)
join_is_pointwise e f p = omega (arith, value_at-combined Greater 0 e 0 f p)

pub meet_is_pointwise : (e f : EventTree) → IsMeet e f (combined_from Lesser 0 e 0 f)
meet_is_pointwise e f p = omega (arith, value_at-combined Lesser 0 e 0 f p)

pub IsEvents_combined : (c : Pick) (e f : EventTree) → IsEvents e → IsEvents f → IsEvents (combined_from c 0 e 0 f)
IsEvents_combined c e f h k = record {
  normal = IsNormal-combined c 0 e 0 f;
  shallow = omega (arith, depth-combined c 0 e 0 f, h.shallow, k.shallow);
  small = omega (arith, greatest_combined c 0 e 0 f, h.small, k.small);
}

-- ---- where the walks end early

-- a tree that is nowhere less than k is the greater of the two
pub raised_low : (k y : ℕ) (f : EventTree) → IsNormal f → k ≤ y + root f → clipped Greater k y f ≡ lifted y f
raised_low k y f h low =
    equal_values (clipped Greater k y f) (lifted y f) (IsNormal-clipped Greater k y f) (IsNormal-lifted y f h)
    (λ p. omega (arith, value_at-clipped Greater k y f p, value_at-lifted y f p, least_le f p, root_least f h, low))

-- and k the lesser
pub lowered_low : (k y : ℕ) (f : EventTree) → IsNormal f → k ≤ y + root f → clipped Lesser k y f ≡ Leaf k
lowered_low k y f h low =
    equal_values (clipped Lesser k y f) (Leaf k) (IsNormal-clipped Lesser k y f) tt
    (λ p. omega (arith, value_at-clipped Lesser k y f p, least_le f p, root_least f h, low))

-- below the limit stands each tree
pub lowered_high : (k y : ℕ) (f : EventTree) → IsNormal f → y + greatest f ≤ k → clipped Lesser k y f ≡ lifted y f
lowered_high k y f h high =
    equal_values (clipped Lesser k y f) (lifted y f) (IsNormal-clipped Lesser k y f) (IsNormal-lifted y f h)
    (λ p. omega (arith, value_at-clipped Lesser k y f p, value_at-lifted y f p, greatest_ge f p, high))

-- beside a leaf
pub combined_leaf : (c : Pick) (x : ℕ) (e : EventTree) (y n : ℕ) → combined_from c x e y (Leaf n) ≡ clipped c (y + n) x e
combined_leaf c x e y n =
    equal_values (combined_from c x e y (Leaf n)) (clipped c (y + n) x e) (IsNormal-combined c x e y (Leaf n)) (IsNormal-clipped c (y + n) x e)
    (λ p. value_at-combined c x e y (Leaf n) p ∙ pick_swapped c (x + value_at e p) (y + n) ∙ sym (value_at-clipped c (y + n) x e p))

-- ---- a join with a leaf at or below the other tree

pub lifted_none : (e : EventTree) → lifted 0 e ≡ e
lifted_none (Leaf n) = ap Leaf (omega arith)
lifted_none (Node n a b) = ap (λ (m : ℕ). Node m a b) (omega arith)

raised_none : (k : ℕ) (f : EventTree) → IsNormal f → k ≤ root f → clipped Greater k 0 f ≡ f
raised_none k f h low = raised_low k 0 f h (omega (arith, low)) ∙ lifted_none f

pub joined_beside : (e f : EventTree) → e ≡ Leaf (root e) → root e ≤ root f → IsNormal f → combined_from Greater 0 e 0 f ≡ f
joined_beside (Leaf m) f is low h = raised_none (0 + m) f h (omega (arith, low))
joined_beside (Node m a b) f is low h = absurd cc

pub joined_behind : (e f : EventTree) → f ≡ Leaf (root f) → root f ≤ root e → IsNormal e → combined_from Greater 0 e 0 f ≡ e
joined_behind e (Leaf n) is low h = combined_leaf Greater 0 e 0 n ∙ raised_none (0 + n) e h (omega (arith, low))
joined_behind e (Node n a b) is low h = absurd cc
