-- What fill does to the values of any tree.
use Rattle.std.proofs.Common.{◌≡◌, ℕ, ◌+◌, ◌≤◌, max, true, false, [], ◌∷◌, refl, ◌∙◌, arith}
use Rattle.std.proofs.lemmas.Bool.{both_ways}
use Rattle.id_tree.specs.IdTree.{IdTree, Zero, One, Pair}
use Rattle.id_tree.specs.Points.{Point, owns}
use Rattle.event_tree.specs.EventTree.{EventTree, Leaf, Node}
use Rattle.event_tree.specs.Values.{value_at}
use Rattle.event_tree.specs.NormalForm.{least, greatest}
use Rattle.event_tree.specs.Norm.{norm}
use Rattle.event_tree.specs.Event.{fill}
use Rattle.event_tree.proofs.Trees.{least_le, greatest_ge}
use Rattle.event_tree.proofs.Normal.{value_at-norm}

-- f is e raised at points that i owns, to k at most
pub record Raises (i : IdTree) (e f : EventTree) (k : ℕ) : Type 0 where
  pub same : (p : Point) → owns i p ≡ false → value_at f p ≡ value_at e p
  pub above : (p : Point) → value_at e p ≤ value_at f p
  pub within : (p : Point) → value_at f p ≤ k

raises_none : (i : IdTree) (e : EventTree) → Raises i e e (greatest e)
raises_none i e = record { same = λ p o. refl; above = λ p. omega arith; within = λ p. greatest_ge e p }

raises_all : (e : EventTree) (m k : ℕ) → greatest e ≤ m → m ≤ k → Raises One e (Leaf m) k
raises_all e m k up down = record { same = λ p o. absurd (both_ways true o refl); above = λ p. omega (arith, greatest_ge e p, up); within = λ p. down }

no_less : (i : IdTree) (e f : EventTree) (j k : ℕ) → j ≤ k → Raises i e f j → Raises i e f k
no_less i e f j k more h = record { same = h.same; above = h.above; within = λ p. omega (arith, h.within p, more) }

of_halves : (l r : IdTree) (n : ℕ) (a b x y : EventTree) (k : ℕ) → Raises l a x k → Raises r b y k → Raises (Pair l r) (Node n a b) (norm (Node n x y)) (n + k)
of_halves l r n a b x y k h g = record {
  same = λ p o. value_at-norm (Node n x y) p ∙ same p o;
  above = λ p. omega (arith, value_at-norm (Node n x y) p, above p);
  within = λ p. omega (arith, value_at-norm (Node n x y) p, within p);
}
  where
    same : (p : Point) → owns (Pair l r) p ≡ false → value_at (Node n x y) p ≡ value_at (Node n a b) p
    same [] o = omega (arith, h.same [] o)
    same (false ∷ p) o = omega (arith, h.same p o)
    same (true ∷ p) o = omega (arith, g.same p o)

    above : (p : Point) → value_at (Node n a b) p ≤ value_at (Node n x y) p
    above [] = omega (arith, h.above [])
    above (false ∷ p) = omega (arith, h.above p)
    above (true ∷ p) = omega (arith, g.above p)

    within : (p : Point) → value_at (Node n x y) p ≤ n + k
    within [] = omega (arith, h.within [])
    within (false ∷ p) = omega (arith, h.within p)
    within (true ∷ p) = omega (arith, g.within p)

-- beside a filled half f, the other half is owned whole, or is filled too

left_owned : (r : IdTree) (n : ℕ) (a b f : EventTree) → Raises r b f (greatest b) → Raises (Pair One r) (Node n a b) (norm (Node n (Leaf (max (greatest a) (least f))) f)) (greatest (Node n a b))
left_owned r n a b f h =
    of_halves One r n a b _ f (max (greatest a) (greatest b))
    (raises_all a _ _ (omega arith) (omega (arith, least_le f [], h.within [])))
    (no_less r b f _ _ (omega arith) h)

right_owned : (l : IdTree) (n : ℕ) (a b f : EventTree) → Raises l a f (greatest a) → Raises (Pair l One) (Node n a b) (norm (Node n f (Leaf (max (greatest b) (least f))))) (greatest (Node n a b))
right_owned l n a b f h =
    of_halves l One n a b f _ (max (greatest a) (greatest b))
    (no_less l a f _ _ (omega arith) h)
    (raises_all b _ _ (omega arith) (omega (arith, least_le f [], h.within [])))

both_filled : (l r : IdTree) (n : ℕ) (a b x y : EventTree) → Raises l a x (greatest a) → Raises r b y (greatest b) → Raises (Pair l r) (Node n a b) (norm (Node n x y)) (greatest (Node n a b))
both_filled l r n a b x y h g =
    of_halves l r n a b x y (max (greatest a) (greatest b)) (no_less l a x _ _ (omega arith) h) (no_less r b y _ _ (omega arith) g)

pub fill_raises : (i : IdTree) (e : EventTree) → Raises i e (fill i e) (greatest e)
fill_raises Zero e = raises_none Zero e
fill_raises One e = raises_all e (greatest e) (greatest e) (omega arith) (omega arith)
fill_raises (Pair l r) (Leaf n) = raises_none (Pair l r) (Leaf n)
fill_raises (Pair One r) (Node n a b) = left_owned r n a b (fill r b) (fill_raises r b)
fill_raises (Pair Zero One) (Node n a b) = right_owned Zero n a b a (fill_raises Zero a)
fill_raises (Pair (Pair c d) One) (Node n a b) = right_owned (Pair c d) n a b (fill (Pair c d) a) (fill_raises (Pair c d) a)
fill_raises (Pair Zero Zero) (Node n a b) = both_filled Zero Zero n a b a b (fill_raises Zero a) (fill_raises Zero b)
fill_raises (Pair Zero (Pair x y)) (Node n a b) = both_filled Zero (Pair x y) n a b a (fill (Pair x y) b) (fill_raises Zero a) (fill_raises (Pair x y) b)
fill_raises (Pair (Pair c d) Zero) (Node n a b) = both_filled (Pair c d) Zero n a b (fill (Pair c d) a) b (fill_raises (Pair c d) a) (fill_raises Zero b)
fill_raises (Pair (Pair c d) (Pair x y)) (Node n a b) =
    both_filled (Pair c d) (Pair x y) n a b (fill (Pair c d) a) (fill (Pair x y) b) (fill_raises (Pair c d) a) (fill_raises (Pair x y) b)
