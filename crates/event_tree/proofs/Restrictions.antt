-- What a restricted tree of the code is.
use Rattle.std.proofs.Common.{◌≡◌, ℕ, ◌+◌, ◌≤◌, max, true, false, [], ◌∷◌, inl, inr, refl, ap, ◌∙◌, arith}
use Rattle.std.proofs.lemmas.Bool.{both_ways, cases_Bool}
use Rattle.id_tree.specs.IdTree.{IdTree, Zero, One, Pair}
use Rattle.id_tree.specs.Points.{Point, owns, OwnsSome}
use Rattle.id_tree.specs.Size.{size as id_size}
use Rattle.id_tree.specs.NormalForm.{depth as id_depth}
use Rattle.event_tree.specs.EventTree.{EventTree, Leaf, Node}
use Rattle.event_tree.specs.Values.{value_at}
use Rattle.event_tree.specs.NormalForm.{greatest, depth, IsNormal, IsEvents, value_limit}
use Rattle.event_tree.specs.Halves.{root, left, right}
use Rattle.event_tree.specs.Norm.{normal_node}
use Rattle.event_tree.specs.Restricted.{IsRestricted}
use Rattle.event_tree.specs.working.Walks.{restricted_from}
use Rattle.event_tree.proofs.Trees.{value_at-nil, value_at-left, value_at-right, greatest_ge, greatest_below}
use Rattle.event_tree.proofs.Normal.{value_at-normal_node, IsNormal-normal_node, depth-normal_node, IsNormal-lifted, value_at-lifted, depth-lifted}
use Rattle.event_tree.proofs.Picks.{depth-halves}

-- ---- of an id that owns everything

some_id_size : (i : IdTree) → 1 ≤ id_size i
some_id_size Zero = omega arith
some_id_size One = omega arith
some_id_size (Pair l r) = omega arith

pub is_everything : (i : IdTree) → id_size i ≡ 1 → OwnsSome i → i ≡ One
is_everything Zero s o = absurd (both_ways false refl o.1)
is_everything One s o = refl
is_everything (Pair l r) s o = absurd (omega (arith, s, some_id_size l))

pub everything_kept : (i : IdTree) (e : EventTree) → i ≡ One → restricted_from i 0 e ≡ e
everything_kept i (Leaf n) is = let same : n + 0 ≡ n = omega arith in rw is (ap Leaf same)
everything_kept i (Node n a b) is = let same : n + 0 ≡ n = omega arith in rw is (ap (λ (m : ℕ). Node m a b) same)

pub nothing_owned : (i : IdTree) (e : EventTree) → i ≡ Zero → restricted_from i 0 e ≡ Leaf value_limit
nothing_owned i e is = rw is refl

-- ---- of any id

value_owned : (i : IdTree) (x : ℕ) (e : EventTree) (p : Point) → owns i p ≡ true → value_at (restricted_from i x e) p ≡ x + value_at e p
value_owned Zero x e p o = absurd (both_ways false refl o)
value_owned One x e p o = omega (arith, value_at-lifted x e p)
value_owned (Pair l r) x e [] o = value_at-normal_node 0 _ _ [] ∙ omega (arith, value_owned l (x + root e) (left e) [] o, value_at-nil e)
value_owned (Pair l r) x e (false ∷ p) o = value_at-normal_node 0 _ _ (false ∷ p) ∙ omega (arith, value_owned l (x + root e) (left e) p o, value_at-left e p)
value_owned (Pair l r) x e (true ∷ p) o = value_at-normal_node 0 _ _ (true ∷ p) ∙ omega (arith, value_owned r (x + root e) (right e) p o, value_at-right e p)

value_elsewhere : (i : IdTree) (x : ℕ) (e : EventTree) (p : Point) → owns i p ≡ false → value_at (restricted_from i x e) p ≡ value_limit
value_elsewhere Zero x e p o = refl
value_elsewhere One x e p o = absurd (both_ways true o refl)
value_elsewhere (Pair l r) x e [] o = value_at-normal_node 0 _ _ [] ∙ omega (arith, value_elsewhere l (x + root e) (left e) [] o)
value_elsewhere (Pair l r) x e (false ∷ p) o = value_at-normal_node 0 _ _ (false ∷ p) ∙ omega (arith, value_elsewhere l (x + root e) (left e) p o)
value_elsewhere (Pair l r) x e (true ∷ p) o = value_at-normal_node 0 _ _ (true ∷ p) ∙ omega (arith, value_elsewhere r (x + root e) (right e) p o)

pub is_restricted : (i : IdTree) (e : EventTree) → IsRestricted i e (restricted_from i 0 e)
is_restricted i e = record { owned = λ p o. omega (arith, value_owned i 0 e p o); elsewhere = value_elsewhere i 0 e }

pub greatest_restricted : (i : IdTree) (x : ℕ) (e : EventTree) → x + greatest e ≤ value_limit → greatest (restricted_from i x e) ≤ value_limit
greatest_restricted i x e fits =
    greatest_below value_limit (restricted_from i x e)
    (λ p. elim (cases_Bool (owns i p)) [
      | inl o ↦ omega (arith, value_owned i x e p o, greatest_ge e p, fits)
      | inr o ↦ omega (arith, value_elsewhere i x e p o)
    ])

normal_halves : (e : EventTree) → IsNormal e → IsNormal (left e) × IsNormal (right e)
normal_halves (Leaf n) h = (tt, tt)
normal_halves (Node n a b) h = (h.0, h.1)

IsNormal-restricted : (i : IdTree) (x : ℕ) (e : EventTree) → IsNormal e → IsNormal (restricted_from i x e)
IsNormal-restricted Zero x e h = tt
IsNormal-restricted One x e h = IsNormal-lifted x e h
IsNormal-restricted (Pair l r) x e h =
    let both = normal_halves e h in
    IsNormal-normal_node 0 _ _ (IsNormal-restricted l (x + root e) (left e) both.0) (IsNormal-restricted r (x + root e) (right e) both.1)

-- it is no deeper than the deeper of both
depth-restricted : (i : IdTree) (x : ℕ) (e : EventTree) → depth (restricted_from i x e) ≤ max (id_depth i) (depth e)
depth-restricted Zero x e = omega arith
depth-restricted One x e = omega (arith, depth-lifted x e)
depth-restricted (Pair l r) x e =
    let a = depth-restricted l (x + root e) (left e) in
    let b = depth-restricted r (x + root e) (right e) in
    omega (arith, a, b, depth-halves e, depth-normal_node 0 (restricted_from l (x + root e) (left e)) (restricted_from r (x + root e) (right e)))

pub IsEvents_restricted : (i : IdTree) (e : EventTree) → id_depth i ≤ 40 → IsEvents e → IsEvents (restricted_from i 0 e)
IsEvents_restricted i e shallow h = record {
  normal = IsNormal-restricted i 0 e h.normal;
  shallow = omega (arith, depth-restricted i 0 e, shallow, h.shallow);
  small = omega (arith, greatest_restricted i 0 e (omega (arith, h.small)));
}

-- ---- the halves of a tree, as the code looks at them

greatest_halves : (e : EventTree) → (root e + greatest (left e) ≤ greatest e) × (root e + greatest (right e) ≤ greatest e)
greatest_halves (Leaf n) = omega arith
greatest_halves (Node n a b) = omega arith

pub halves_within : (e : EventTree) (n : ℕ) (a b : EventTree) → n ≡ root e → a ≡ left e → b ≡ right e → (n + greatest a ≤ greatest e) × (n + greatest b ≤ greatest e)
halves_within e n a b base one other = rw (base, one, other) (greatest_halves e)

pub restricted_halves : (l r : IdTree) (x : ℕ) (e : EventTree) (n : ℕ) (a b : EventTree) → n ≡ root e → a ≡ left e → b ≡ right e
    → restricted_from (Pair l r) x e ≡ normal_node 0 (restricted_from l (x + n) a) (restricted_from r (x + n) b)
restricted_halves l r x e n a b base one other = rw (base, one, other) refl
