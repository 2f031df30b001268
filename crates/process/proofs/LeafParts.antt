-- The two parts of an id of which a leaf can be given away.
use Rattle.std.proofs.Common.{◌≡◌, ◌≢◌, ◌⊎◌, inl, inr, ℕ, zero, suc, ◌+◌, ◌<◌, ◌≤◌, ◌||◌, max, Bool, true, false, Option, Some, None, [], ◌∷◌, IsTrue, refl, sym, ◌∙◌, arith}
use Rattle.std.specs.Prelude.{MatchOption}
use Rattle.std.proofs.lemmas.Bool.{cases_Bool, both_ways, true≢false}
use Rattle.id_tree.specs.IdTree.{IdTree, Zero, One, Pair}
use Rattle.id_tree.specs.NormalForm.{depth, depth_limit}
use Rattle.id_tree.specs.Points.{Point, owns}
use Rattle.id_tree.specs.Split.{left_part, right_part, parts_depth, IsSplit}
use Rattle.process.specs.Leaves.{IsLeafAt, HasLeafWithin, HasRoomFor, IsFromDeepest}
use Rattle.process.specs.working.Leaves.{AtMost, AreInOrder, IsPartedOnce, above, deepest_within, cells_of_all, cells}
use Rattle.process.proofs.LeafWays.{LeavesFit, leaves_fit, leaves_turned, from_part}

-- ---- what holds of two parts of an id, of which one has a leaf that is no deeper

pub record PartsFit (i l r : IdTree) (d : ℕ) : Type 0 where
  pub left : depth l ≤ max d (depth i)
  pub right : depth r ≤ max d (depth i)
  pub leaf : HasLeafWithin l d ⊎ HasLeafWithin r d
  pub counted : cells l d + cells r d ≡ cells i d

in_left : (i l r : IdTree) (d : ℕ) → PartsFit i l r d → PartsFit (Pair i Zero) (Pair l Zero) (Pair r Zero) (suc d)
in_left i l r d h = record {
  left = omega (arith, h.left);
  right = omega (arith, h.right);
  leaf = elim h.leaf [ inl x ↦ inl (inl x) | inr x ↦ inr (inl x) ];
  counted = omega (arith, h.counted);
}

in_right : (i l r : IdTree) (d : ℕ) → PartsFit i l r d → PartsFit (Pair Zero i) (Pair Zero l) (Pair Zero r) (suc d)
in_right i l r d h = record {
  left = omega (arith, h.left);
  right = omega (arith, h.right);
  leaf = elim h.leaf [ inl x ↦ inl (inr x) | inr x ↦ inr (inr x) ];
  counted = omega (arith, h.counted);
}

halves : (l r : IdTree) (d : ℕ) → HasLeafWithin (Pair l r) (suc d) → PartsFit (Pair l r) (Pair l Zero) (Pair Zero r) (suc d)
halves l r d h = record {
  left = omega arith;
  right = omega arith;
  leaf = elim h [ inl x ↦ inl (inl x) | inr x ↦ inr (inr x) ];
  counted = omega arith;
}

second : (A : Type 0) → ⊥ ⊎ A → A
second A (inl x) = absurd x
second A (inr x) = x

first : (A : Type 0) → A ⊎ ⊥ → A
first A (inl x) = x
first A (inr x) = absurd x

pub parts_fit : (i : IdTree) (d : ℕ) → HasLeafWithin i d → ¬ IsLeafAt d i → PartsFit i (left_part i) (right_part i) d
parts_fit Zero d h k = absurd h
parts_fit One zero h k = absurd (k tt)
parts_fit One (suc d) h k = record { left = omega arith; right = omega arith; leaf = inl (inl tt); counted = omega arith }
parts_fit (Pair l r) zero h k = absurd h
parts_fit (Pair Zero Zero) (suc d) h k = absurd (second ⊥ h)
parts_fit (Pair Zero One) (suc d) h k = in_right One _ _ d (parts_fit One d tt k)
parts_fit (Pair Zero (Pair a b)) (suc d) h k = in_right (Pair a b) _ _ d (parts_fit (Pair a b) d (second (HasLeafWithin (Pair a b) d) h) k)
parts_fit (Pair One Zero) (suc d) h k = in_left One _ _ d (parts_fit One d tt k)
parts_fit (Pair (Pair a b) Zero) (suc d) h k = in_left (Pair a b) _ _ d (parts_fit (Pair a b) d (first (HasLeafWithin (Pair a b) d) h) k)
parts_fit (Pair One One) (suc d) h k = halves One One d h
parts_fit (Pair One (Pair a b)) (suc d) h k = halves One (Pair a b) d h
parts_fit (Pair (Pair a b) One) (suc d) h k = halves (Pair a b) One d h
parts_fit (Pair (Pair a b) (Pair x y)) (suc d) h k = halves (Pair a b) (Pair x y) d h

-- ---- what owns something counts

some_of_all : (d : ℕ) → 0 < cells_of_all d
some_of_all zero = omega arith
some_of_all (suc d) = omega (arith, some_of_all d)

some_cells : (i : IdTree) (d : ℕ) (p : Point) → IsTrue (owns i p) → 0 < cells i d
some_cells Zero d p h = absurd (true≢false (sym h))
some_cells One d p h = some_of_all d
some_cells (Pair l r) zero [] h = omega (arith, some_cells l 0 [] h)
some_cells (Pair l r) zero (false ∷ p) h = omega (arith, some_cells l 0 p h)
some_cells (Pair l r) zero (true ∷ p) h = omega (arith, some_cells r 0 p h)
some_cells (Pair l r) (suc d) [] h = omega (arith, some_cells l d [] h)
some_cells (Pair l r) (suc d) (false ∷ p) h = omega (arith, some_cells l d p h)
some_cells (Pair l r) (suc d) (true ∷ p) h = omega (arith, some_cells r d p h)

-- ---- the parts of a split

pub owns_something : (i : IdTree) (d : ℕ) → HasLeafWithin i d → i ≢ Zero
owns_something Zero d h e = h
owns_something One d h e = absurd cc
owns_something (Pair l r) d h e = absurd cc

-- no part is too deep
pub not_deep : (i : IdTree) (d : ℕ) → HasRoomFor i d → depth i ≤ depth_limit → ¬ (depth_limit < parts_depth i)
not_deep i d h shallow deep = let fit = parts_fit i d h.1 h.2 in absurd (omega (arith, fit.left, fit.right, h.0))

pub turned : (i l r : IdTree) → IsSplit i l r → IsSplit i r l
turned i l r s = record {
  left = s.right;
  right = s.left;
  disjoint = λ p h. elim (cases_Bool (owns l p)) [ inl e ↦ absurd (both_ways (owns r p) (s.disjoint p e) h) | inr e ↦ e ];
  together = λ p. s.together p ∙ or_turned (owns l p) (owns r p);
}
  where
    or_turned : (a b : Bool) → (a || b) ≡ (b || a)
    or_turned true true = refl
    or_turned true false = refl
    or_turned false true = refl
    or_turned false false = refl

parted_so : (i l r : IdTree) (d : ℕ) → IsSplit i l r → cells l d + cells r d ≡ cells i d → HasLeafWithin r d → ((given : IdTree) → IsFromDeepest r d given → IsFromDeepest i d given) → IsPartedOnce i d l r
parted_so i l r d s counted leaf from = record { split = s; leaf = leaf; smaller = omega (arith, counted, some_cells l d s.left.0 s.left.1); deepest = from }

parted_turned : (i l r : IdTree) (d : ℕ) → IsSplit i l r → cells l d + cells r d ≡ cells i d → HasLeafWithin l d → ((given : IdTree) → IsFromDeepest l d given → IsFromDeepest i d given) → IsPartedOnce i d r l
parted_turned i l r d s counted leaf from = record { split = turned i l r s; leaf = leaf; smaller = omega (arith, counted, some_cells r d s.right.0 s.right.1); deepest = from }

pub parted_once : (i l r rest part : IdTree) (d : ℕ) → HasRoomFor i d → l ≡ left_part i → r ≡ right_part i → IsSplit i l r → AreInOrder l r d rest part → IsPartedOnce i d rest part
parted_once i l r rest part d room is_l is_r s o =
    let fit = parts_fit i d room.1 room.2 in
    let counted : cells l d + cells r d ≡ cells i d = rw (is_l, is_r) fit.counted in
    let leaves : LeavesFit i l r = rw (is_l, is_r) (leaves_fit i) in
    elim o.are [
      | inl e ↦ let from = from_part i rest part d room.1 (rw (e.0, e.1) leaves) o.deepest in rw (e.0) (rw (e.1) (parted_so i l r d s counted (rw e.1 at o.leaf) (rw e.1 at from)))
      | inr e ↦ let from = from_part i rest part d room.1 (rw (e.0, e.1) (leaves_turned i l r leaves)) o.deepest in rw (e.0) (rw (e.1) (parted_turned i l r d s counted (rw e.1 at o.leaf) (rw e.1 at from)))
    ]

pub parts_leaf : (i l r : IdTree) (d : ℕ) → HasRoomFor i d → l ≡ left_part i → r ≡ right_part i → HasLeafWithin l d ⊎ HasLeafWithin r d
parts_leaf i l r d room is_l is_r = rw (is_l, is_r) (parts_fit i d room.1 room.2).leaf

-- ---- what the looks tell

above_told : (a b : Option ℕ) (A B : Type 0) → MatchOption a (¬ A) (λ n. A) → MatchOption b (¬ B) (λ n. B) → MatchOption (above a b) (¬ (A ⊎ B)) (λ n. A ⊎ B)
above_told None None A B h k = λ x. elim x [ inl y ↦ h y | inr y ↦ k y ]
above_told (Some l) None A B h k = inl h
above_told None (Some r) A B h k = inr k
above_told (Some l) (Some r) A B h k = inl h

pub deepest_told : (i : IdTree) (d : ℕ) → MatchOption (deepest_within i d) (¬ HasLeafWithin i d) (λ n. HasLeafWithin i d)
deepest_told Zero d = λ h. h
deepest_told One d = tt
deepest_told (Pair l r) zero = λ h. h
deepest_told (Pair l r) (suc d) = above_told (deepest_within l d) (deepest_within r d) (HasLeafWithin l d) (HasLeafWithin r d) (deepest_told l d) (deepest_told r d)

pub leaf_told : (part i : IdTree) (d : ℕ) (found : Option ℕ) → part ≡ i → found ≡ deepest_within part d → MatchOption found (¬ HasLeafWithin i d) (λ n. HasLeafWithin i d)
leaf_told part i d found e is = rw (is, e) (deepest_told i d)

-- of two looks, the greater one has the leaf
pub in_greater : (a b : Option ℕ) (A B : Type 0) → MatchOption a (¬ A) (λ n. A) → MatchOption b (¬ B) (λ n. B) → AtMost a b → A ⊎ B → B
in_greater a (Some y) A B h k f x = k
in_greater None None A B h k f x = elim x [ inl y ↦ absurd (h y) | inr y ↦ y ]
in_greater (Some l) None A B h k f x = absurd f

pub either_way : (A B : Type 0) → A ⊎ B → B ⊎ A
either_way A B (inl x) = inr x
either_way A B (inr x) = inl x
