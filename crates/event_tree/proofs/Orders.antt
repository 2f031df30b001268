-- What the walks of two trees answer.
use Rattle.std.proofs.Common.{◌≡◌, ℕ, ◌+◌, ◌≤◌, ◌<◌, true, false, [], ◌∷◌, max, refl, sym, ap, ◌∙◌, inl, inr, ◌↔◌, IsTrue, arith, leb-true, leb-false}
use Rattle.std.specs.Prelude.{nat_le, ◌&&◌}
use Rattle.std.proofs.lemmas.Bool.{both_ways, and_parts, and_cases, or_cases, or_parts, not-true, not-false, cases_Bool, le-leb, lt-leb}
use Rattle.id_tree.specs.IdTree.{IdTree, Zero, One, Pair}
use Rattle.id_tree.specs.Points.{Point, owns}
use Rattle.event_tree.specs.EventTree.{EventTree, Leaf, Node}
use Rattle.event_tree.specs.Values.{value_at, IsAtOrBelow, ExceedsOn}
use Rattle.event_tree.specs.NormalForm.{least, greatest}
use Rattle.event_tree.specs.Halves.{root, left, right}
use Rattle.event_tree.specs.working.Tests.{is_below_from, exceeds_from}
use Rattle.event_tree.proofs.Trees.{value_at-nil, value_at-left, value_at-right, least_le, some_least}

pub below_from-true : (x : ℕ) (e : EventTree) (y : ℕ) (f : EventTree) → is_below_from x e y f ≡ true → (p : Point) → x + value_at e p ≤ y + value_at f p
below_from-true x (Leaf m) y f h p = omega (arith, leb-true (x + m) (y + least f) h, least_le f p)
below_from-true x (Node m a b) y f h [] = omega (arith, below_from-true (x + m) a (y + root f) (left f) (and_parts _ _ h).0 [], value_at-nil f)
below_from-true x (Node m a b) y f h (false ∷ p) = omega (arith, below_from-true (x + m) a (y + root f) (left f) (and_parts _ _ h).0 p, value_at-left f p)
below_from-true x (Node m a b) y f h (true ∷ p) = omega (arith, below_from-true (x + m) b (y + root f) (right f) (and_parts _ _ h).1 p, value_at-right f p)

pub below_from-false : (x : ℕ) (e : EventTree) (y : ℕ) (f : EventTree) → is_below_from x e y f ≡ false → (p : Point) × (y + value_at f p < x + value_at e p)
below_from-false x (Leaf m) y f h = let q = some_least f in (q.0, omega (arith, leb-false (x + m) (y + least f) h, q.1))
below_from-false x (Node m a b) y f h =
    elim (and_cases _ _ h) [
      | inl ha ↦ let q = below_from-false (x + m) a (y + root f) (left f) ha in (false ∷ q.0, omega (arith, q.1, value_at-left f q.0))
      | inr hb ↦ let q = below_from-false (x + m) b (y + root f) (right f) hb in (true ∷ q.0, omega (arith, q.1, value_at-right f q.0))
    ]

pub below_is_pointwise : (e f : EventTree) → (is_below_from 0 e 0 f ≡ true) ↔ IsAtOrBelow e f
below_is_pointwise e f = (
  λ h p. omega (arith, below_from-true 0 e 0 f h p),
  λ below. elim (cases_Bool (is_below_from 0 e 0 f)) [
    | inl h ↦ h
    | inr h ↦ let q = below_from-false 0 e 0 f h in absurd (omega (arith, q.1, below q.0))
  ],
)

pub not_below : (e f : EventTree) → (is_below_from 0 e 0 f ≡ false) ↔ ((p : Point) × (value_at f p < value_at e p))
not_below e f = (
  λ h. let q = below_from-false 0 e 0 f h in (q.0, omega (arith, q.1)),
  λ q. elim (cases_Bool (is_below_from 0 e 0 f)) [
    | inl h ↦ absurd (omega (arith, q.1, below_from-true 0 e 0 f h q.0))
    | inr h ↦ h
  ],
)

exceeds_from-true : (i : IdTree) (x : ℕ) (e : EventTree) (y : ℕ) (f : EventTree) → exceeds_from i x e y f ≡ true → (p : Point) × IsTrue (owns i p) × (y + value_at f p < x + value_at e p)
exceeds_from-true Zero x e y f h = absurd (both_ways false refl h)
exceeds_from-true One x e y f h = let q = below_from-false x e y f (not-true _ h) in (q.0, refl, q.1)
exceeds_from-true (Pair l r) x e y f h =
    elim (or_cases _ _ h) [
      | inl hl ↦ let q = exceeds_from-true l (x + root e) (left e) (y + root f) (left f) hl in
          (false ∷ q.0, q.1, omega (arith, q.2, value_at-left e q.0, value_at-left f q.0))
      | inr hr ↦ let q = exceeds_from-true r (x + root e) (right e) (y + root f) (right f) hr in
          (true ∷ q.0, q.1, omega (arith, q.2, value_at-right e q.0, value_at-right f q.0))
    ]

exceeds_from-false : (i : IdTree) (x : ℕ) (e : EventTree) (y : ℕ) (f : EventTree) → exceeds_from i x e y f ≡ false → (p : Point) → IsTrue (owns i p) → x + value_at e p ≤ y + value_at f p
exceeds_from-false Zero x e y f h p o = absurd (both_ways false refl o)
exceeds_from-false One x e y f h p o = below_from-true x e y f (not-false _ h) p
exceeds_from-false (Pair l r) x e y f h [] o = omega (arith, exceeds_from-false l (x + root e) (left e) (y + root f) (left f) (or_parts _ _ h).0 [] o, value_at-nil e, value_at-nil f)
exceeds_from-false (Pair l r) x e y f h (false ∷ p) o = omega (arith, exceeds_from-false l (x + root e) (left e) (y + root f) (left f) (or_parts _ _ h).0 p o, value_at-left e p, value_at-left f p)
exceeds_from-false (Pair l r) x e y f h (true ∷ p) o = omega (arith, exceeds_from-false r (x + root e) (right e) (y + root f) (right f) (or_parts _ _ h).1 p o, value_at-right e p, value_at-right f p)

pub exceeding_is_pointwise : (i : IdTree) (e f : EventTree) → (exceeds_from i 0 e 0 f ≡ true) ↔ ExceedsOn i e f
exceeding_is_pointwise i e f = (
  λ h. let q = exceeds_from-true i 0 e 0 f h in (q.0, q.1, omega (arith, q.2)),
  λ q. elim (cases_Bool (exceeds_from i 0 e 0 f)) [
    | inl h ↦ h
    | inr h ↦ absurd (omega (arith, q.2, exceeds_from-false i 0 e 0 f h q.0 q.1))
  ],
)

-- ---- a tree beside a leaf

both_at_most : (m n k : ℕ) → (nat_le m k && nat_le n k) ≡ nat_le (max m n) k
both_at_most m n k =
    elim (cases_Bool (nat_le m k)) [
      | inl h ↦ elim (cases_Bool (nat_le n k)) [
        | inl g ↦ let all : nat_le (max m n) k ≡ true = le-leb (max m n) k (omega (arith, leb-true m k h, leb-true n k g)) in rw (h, g, all) refl
        | inr g ↦ let some : nat_le (max m n) k ≡ false = lt-leb (max m n) k (omega (arith, leb-false n k g)) in rw (h, g, some) refl
      ]
      | inr h ↦ let some : nat_le (max m n) k ≡ false = lt-leb (max m n) k (omega (arith, leb-false m k h)) in rw (h, some) refl
    ]

pub greatest_at_most : (x m : ℕ) (a b : EventTree) (k : ℕ) → (nat_le (x + m + greatest a) k && nat_le (x + m + greatest b) k) ≡ nat_le (x + greatest (Node m a b)) k
greatest_at_most x m a b k =
    let is : max (x + m + greatest a) (x + m + greatest b) ≡ x + greatest (Node m a b) = omega arith in
    both_at_most (x + m + greatest a) (x + m + greatest b) k ∙ ap (λ (g : ℕ). nat_le g k) is

pub below_leaf : (x : ℕ) (e : EventTree) (y n : ℕ) → nat_le (x + greatest e) (y + n) ≡ is_below_from x e y (Leaf n)
below_leaf x (Leaf m) y n = refl
below_leaf x (Node m a b) y n =
    let none : y + n + 0 ≡ y + n = omega arith in
    let one : is_below_from (x + m) a (y + n) (Leaf 0) ≡ nat_le (x + m + greatest a) (y + n) = sym (below_leaf (x + m) a (y + n) 0) ∙ ap (nat_le (x + m + greatest a)) none in
    let other : is_below_from (x + m) b (y + n) (Leaf 0) ≡ nat_le (x + m + greatest b) (y + n) = sym (below_leaf (x + m) b (y + n) 0) ∙ ap (nat_le (x + m + greatest b)) none in
    rw (one, other) (sym (greatest_at_most x m a b (y + n)))

-- at or below a leaf at the limit stands each tree
pub below_limit : (x : ℕ) (e : EventTree) (y n : ℕ) → x + greatest e < 4294967296 → y + n ≡ 4294967295 → true ≡ is_below_from x e y (Leaf n)
below_limit x e y n fits full = sym (le-leb (x + greatest e) (y + n) (omega (arith, fits, full))) ∙ below_leaf x e y n

-- what is at or below another tree exceeds it nowhere
pub below_exceeds_nowhere : (i : IdTree) (x : ℕ) (e : EventTree) (y : ℕ) (f : EventTree) → is_below_from x e y f ≡ true → exceeds_from i x e y f ≡ false
below_exceeds_nowhere i x e y f h =
    elim (cases_Bool (exceeds_from i x e y f)) [
      | inl some ↦ let q = exceeds_from-true i x e y f some in absurd (omega (arith, q.2, below_from-true x e y f h q.0))
      | inr none ↦ none
    ]
