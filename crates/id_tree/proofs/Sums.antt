-- What the sum of two ids owns, its form, and what the test for it tells.
use Rattle.std.proofs.Common.{◌≡◌, ◌↔◌, ◌+◌, ◌≤◌, ◌||◌, max, Bool, true, false, List, [], ◌∷◌, ◌++◌, inl, inr, refl, sym, ◌∙◌, arith}
use Rattle.std.proofs.Math.Bool.{or-false}
use Rattle.std.proofs.lemmas.Bool.{and_from, or_parts, cases_Bool, both_ways, true≢false}
use Rattle.id_tree.specs.IdTree.{IdTree, Zero, One, Pair}
use Rattle.id_tree.specs.NormalForm.{IsNormal, IsId, are_equal_leaves, depth}
use Rattle.id_tree.specs.Points.{Point, owns, AreDisjoint, AreTogether}
use Rattle.id_tree.specs.Sum.{normal_pair, sum_of}
use Rattle.id_tree.specs.working.Tests.{are_disjoint, IsSumBy}
use Rattle.id_tree.specs.working.Marks.{preorder, tree_of, AreMarksOf}
use Rattle.id_tree.specs.declared.marks.Mark.{Mark}
use Rattle.id_tree.proofs.Preorder.{are_of, tree_of_preorder}
use Rattle.id_tree.proofs.Points.{equal_points, some_point, disjoint_from}

-- what holds of both forms of a pair holds of the normal one
either : (P : IdTree → Type 0) (l r : IdTree) → (are_equal_leaves l r ≡ true → P l) → (are_equal_leaves l r ≡ false → P (Pair l r)) → P (normal_pair l r)
either P l r h k = elim (cases_Bool (are_equal_leaves l r)) [ inl e ↦ rw e (h e) | inr e ↦ rw e (k e) ]

equal_halves : (l r : IdTree) (p : Point) → are_equal_leaves l r ≡ true → owns l p ≡ owns (Pair l r) p
equal_halves Zero Zero [] h = refl
equal_halves Zero Zero (false ∷ p) h = refl
equal_halves Zero Zero (true ∷ p) h = refl
equal_halves One One [] h = refl
equal_halves One One (false ∷ p) h = refl
equal_halves One One (true ∷ p) h = refl
equal_halves l r p h = cc

owns_pair : (l r : IdTree) (p : Point) → owns (normal_pair l r) p ≡ owns (Pair l r) p
owns_pair l r p = either (λ k. owns k p ≡ owns (Pair l r) p) l r (λ e. equal_halves l r p e) (λ e. refl)

or_true : (b : Bool) → true ≡ (b || true)
or_true true = refl
or_true false = refl

pub together : (i j : IdTree) → AreTogether i j (sum_of i j)
together Zero j p = refl
together One j p = refl
together (Pair a b) Zero p = sym (or-false (owns (Pair a b) p))
together (Pair a b) One p = or_true (owns (Pair a b) p)
together (Pair a b) (Pair c d) [] = owns_pair (sum_of a c) (sum_of b d) [] ∙ together a c []
together (Pair a b) (Pair c d) (false ∷ p) = owns_pair (sum_of a c) (sum_of b d) (false ∷ p) ∙ together a c p
together (Pair a b) (Pair c d) (true ∷ p) = owns_pair (sum_of a c) (sum_of b d) (true ∷ p) ∙ together b d p

pub normal : (i j : IdTree) → IsNormal i → IsNormal j → IsNormal (sum_of i j)
normal Zero j m n = n
normal One j m n = tt
normal (Pair a b) Zero m n = m
normal (Pair a b) One m n = tt
normal (Pair a b) (Pair c d) m n =
    let l = normal a c m.0 n.0 in
    let r = normal b d m.1 n.1 in
    either IsNormal (sum_of a c) (sum_of b d) (λ e. l) (λ e. (l, r, e))

depth_pair : (l r : IdTree) → depth (normal_pair l r) ≤ max (depth l) (depth r) + 1
depth_pair l r = either (λ k. depth k ≤ max (depth l) (depth r) + 1) l r (λ e. omega arith) (λ e. omega arith)

depth_sum : (i j : IdTree) → depth (sum_of i j) ≤ max (depth i) (depth j)
depth_sum Zero j = omega arith
depth_sum One j = omega arith
depth_sum (Pair a b) Zero = omega arith
depth_sum (Pair a b) One = omega arith
depth_sum (Pair a b) (Pair c d) = omega (arith, depth_pair (sum_of a c) (sum_of b d), depth_sum a c, depth_sum b d)

pub sum_together : (i j t : IdTree) → t ≡ sum_of i j → AreTogether i j t
sum_together i j t e = rw e (together i j)

pub sum_is_id : (i j t : IdTree) → t ≡ sum_of i j → IsId i → IsId j → IsId t
sum_is_id i j t e m n = rw e (record { normal = normal i j m.normal n.normal; shallow = omega (arith, depth_sum i j, m.shallow, n.shallow) })

-- ---- what the test tells

sum_from_test : (i l r : IdTree) → IsNormal i → IsSumBy i l r → (are_disjoint l r ≡ true) × (i ≡ sum_of l r)
sum_from_test i Zero r n h = (refl, h)
sum_from_test i One Zero n h = (refl, h)
sum_from_test i One One n h = absurd h
sum_from_test i One (Pair c d) n h = absurd h
sum_from_test i (Pair a b) Zero n h = (refl, h)
sum_from_test i (Pair a b) One n h = absurd h
sum_from_test Zero (Pair a b) (Pair c d) n h = absurd h
sum_from_test One (Pair a b) (Pair c d) n h =
    let x = sum_from_test One a c tt h.0 in
    let y = sum_from_test One b d tt h.1 in
    (and_from _ _ x.0 y.0, rw (← x.1, ← y.1) refl)
sum_from_test (Pair u v) (Pair a b) (Pair c d) n h =
    let x = sum_from_test u a c n.0 h.0 in
    let y = sum_from_test v b d n.1 h.1 in
    (and_from _ _ x.0 y.0, rw (← x.1, ← y.1) (rw n.2 refl))

test_from_points : (i l r : IdTree) → IsNormal i → IsNormal l → IsNormal r → AreDisjoint l r → AreTogether l r i → IsSumBy i l r
test_from_points i Zero r n m k apart whole = equal_points i r n k whole
test_from_points i One Zero n m k apart whole = equal_points i One n tt whole
test_from_points i One One n m k apart whole = absurd (true≢false (apart [] refl))
test_from_points i One (Pair c d) n m k apart whole = let q = some_point (Pair c d) k refl in absurd (both_ways (owns (Pair c d) q.0) (apart q.0 refl) q.1)
test_from_points i (Pair a b) Zero n m k apart whole = equal_points i (Pair a b) n m (λ p. whole p ∙ or-false (owns (Pair a b) p))
test_from_points i (Pair a b) One n m k apart whole = let q = some_point (Pair a b) m refl in absurd (true≢false (apart q.0 q.1))
test_from_points Zero (Pair a b) (Pair c d) n m k apart whole =
    let q = some_point (Pair a b) m refl in
    absurd (both_ways (owns (Pair a b) q.0) (or_parts _ _ (sym (whole q.0))).0 q.1)
test_from_points One (Pair a b) (Pair c d) n m k apart whole = (
  test_from_points One a c tt m.0 k.0 (λ p. apart (false ∷ p)) (λ p. whole (false ∷ p)),
  test_from_points One b d tt m.1 k.1 (λ p. apart (true ∷ p)) (λ p. whole (true ∷ p)),
)
test_from_points (Pair u v) (Pair a b) (Pair c d) n m k apart whole = (
  test_from_points u a c n.0 m.0 k.0 (λ p. apart (false ∷ p)) (λ p. whole (false ∷ p)),
  test_from_points v b d n.1 m.1 k.1 (λ p. apart (true ∷ p)) (λ p. whole (true ∷ p)),
)

pub is_sum_iff : (i l r : IdTree) → IsNormal i → IsNormal l → IsNormal r → IsSumBy i l r ↔ (AreDisjoint l r × AreTogether l r i)
is_sum_iff i l r n m k = (
  λ h. let x = sum_from_test i l r n h in (disjoint_from l r x.0, sum_together l r i x.1),
  λ h. test_from_points i l r n m k h.0 h.1,
)

pub is_disjoint_sum_iff : (i l r : IdTree) → IsNormal i → IsNormal l → IsNormal r → AreDisjoint l r → IsSumBy i l r ↔ (i ≡ sum_of l r)
is_disjoint_sum_iff i l r n m k apart = (λ h. (sum_from_test i l r n h).1, λ e. test_from_points i l r n m k apart (sum_together l r i e))

-- ---- of the marks of two ids

pub are_of_sum : (i j : IdTree) (sum : List Mark) → IsId i → IsId j → sum ≡ preorder (sum_of i j) → AreMarksOf (tree_of sum) sum
are_of_sum i j sum m n e = are_of (sum_of i j) sum e (sum_is_id i j _ refl m n)

pub marks_together : (i j : IdTree) (sum : List Mark) → sum ≡ preorder (sum_of i j) → AreTogether i j (tree_of sum)
marks_together i j sum e = sum_together i j _ (tree_of_preorder _ sum e)

pub sum_marks : (i j : IdTree) (start ms ns sum : List Mark) → tree_of ms ≡ i → tree_of ns ≡ j → start ≡ [] → sum ≡ start ++ preorder (sum_of (tree_of ms) (tree_of ns)) → sum ≡ preorder (sum_of i j)
sum_marks i j start ms ns sum e f none is = is ∙ rw (none, e, f) refl
