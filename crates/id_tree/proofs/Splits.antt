-- The two parts of a split.
use Rattle.std.proofs.Common.{◌≡◌, ◌≢◌, ◌≤◌, true, false, List, [], ◌∷◌, ◌++◌, refl, sym, ◌∙◌, arith}
use Rattle.std.proofs.Math.Bool.{or-false}
use Rattle.std.proofs.lemmas.Bool.{both_ways, true≢false}
use Rattle.id_tree.specs.IdTree.{IdTree, Zero, One, Pair}
use Rattle.id_tree.specs.NormalForm.{IsNormal, IsId, are_equal_leaves, depth_limit}
use Rattle.id_tree.specs.Points.{owns, OwnsSome, AreDisjoint, AreTogether}
use Rattle.id_tree.specs.Split.{left_part, right_part, parts_depth, IsSplit}
use Rattle.id_tree.specs.working.Tests.{owns_any}
use Rattle.id_tree.specs.working.Marks.{preorder, tree_of, AreMarksOf}
use Rattle.id_tree.specs.declared.marks.Mark.{Mark}
use Rattle.id_tree.proofs.Preorder.{are_of, tree_of_preorder}
use Rattle.id_tree.proofs.Points.{some_point}

-- two halves that both own something are the parts
both_owned : (l r : IdTree) → l ≢ Zero → r ≢ Zero → (left_part (Pair l r) ≡ Pair l Zero) × (right_part (Pair l r) ≡ Pair Zero r)
both_owned Zero r h k = absurd (h refl)
both_owned One Zero h k = absurd (k refl)
both_owned One One h k = (refl, refl)
both_owned One (Pair c d) h k = (refl, refl)
both_owned (Pair a b) Zero h k = absurd (k refl)
both_owned (Pair a b) One h k = (refl, refl)
both_owned (Pair a b) (Pair c d) h k = (refl, refl)

-- ---- the parts of the whole

some_beside_left : (i : IdTree) → OwnsSome i → are_equal_leaves Zero i ≡ false
some_beside_left Zero q = absurd (true≢false (sym q.1))
some_beside_left One q = refl
some_beside_left (Pair l r) q = refl

some_beside_right : (i : IdTree) → OwnsSome i → are_equal_leaves i Zero ≡ false
some_beside_right Zero q = absurd (true≢false (sym q.1))
some_beside_right One q = refl
some_beside_right (Pair l r) q = refl

-- two parts of an id, in normal form
record AreParts (i l r : IdTree) : Type 0 where
  pub split : IsSplit i l r
  pub left : IsNormal l
  pub right : IsNormal r

in_right : (i l r : IdTree) → AreParts i l r → AreParts (Pair Zero i) (Pair Zero l) (Pair Zero r)
in_right i l r h = record {
  split = record { left = (true ∷ h.split.left.0, h.split.left.1); right = (true ∷ h.split.right.0, h.split.right.1); disjoint = disjoint; together = together };
  left = (tt, h.left, some_beside_left l h.split.left);
  right = (tt, h.right, some_beside_left r h.split.right);
}
  where
    disjoint : AreDisjoint (Pair Zero l) (Pair Zero r)
    disjoint [] k = refl
    disjoint (false ∷ p) k = refl
    disjoint (true ∷ p) k = h.split.disjoint p k

    together : AreTogether (Pair Zero l) (Pair Zero r) (Pair Zero i)
    together [] = refl
    together (false ∷ p) = refl
    together (true ∷ p) = h.split.together p

in_left : (i l r : IdTree) → AreParts i l r → AreParts (Pair i Zero) (Pair l Zero) (Pair r Zero)
in_left i l r h = record {
  split = record { left = (false ∷ h.split.left.0, h.split.left.1); right = (false ∷ h.split.right.0, h.split.right.1); disjoint = disjoint; together = together };
  left = (h.left, tt, some_beside_right l h.split.left);
  right = (h.right, tt, some_beside_right r h.split.right);
}
  where
    disjoint : AreDisjoint (Pair l Zero) (Pair r Zero)
    disjoint [] k = h.split.disjoint [] k
    disjoint (false ∷ p) k = h.split.disjoint p k
    disjoint (true ∷ p) k = refl

    together : AreTogether (Pair l Zero) (Pair r Zero) (Pair i Zero)
    together [] = h.split.together []
    together (false ∷ p) = h.split.together p
    together (true ∷ p) = refl

-- the halves l and r of i, each of which owns something
between : (i l r : IdTree) → AreTogether (Pair l Zero) (Pair Zero r) i → IsNormal l → IsNormal r → OwnsSome l → OwnsSome r → AreParts i (Pair l Zero) (Pair Zero r)
between i l r together nl nr ol or = record {
  split = record { left = (false ∷ ol.0, ol.1); right = (true ∷ or.0, or.1); disjoint = disjoint; together = together };
  left = (nl, tt, some_beside_right l ol);
  right = (tt, nr, some_beside_left r or);
}
  where
    disjoint : AreDisjoint (Pair l Zero) (Pair Zero r)
    disjoint [] k = refl
    disjoint (false ∷ p) k = refl
    disjoint (true ∷ p) k = absurd (true≢false (sym k))

halves_together : (l r : IdTree) → AreTogether (Pair l Zero) (Pair Zero r) (Pair l r)
halves_together l r [] = sym (or-false (owns l []))
halves_together l r (false ∷ p) = sym (or-false (owns l p))
halves_together l r (true ∷ p) = refl

all_together : AreTogether (Pair One Zero) (Pair Zero One) One
all_together [] = refl
all_together (false ∷ p) = refl
all_together (true ∷ p) = refl

halves : (l r : IdTree) → IsNormal (Pair l r) → owns_any l ≡ true → owns_any r ≡ true → AreParts (Pair l r) (Pair l Zero) (Pair Zero r)
halves l r n e f = between (Pair l r) l r (halves_together l r) n.0 n.1 (some_point l n.0 e) (some_point r n.1 f)

parts : (i : IdTree) → IsNormal i → i ≢ Zero → AreParts i (left_part i) (right_part i)
parts Zero n z = absurd (z refl)
parts One n z = between One One One all_together tt tt ([], refl) ([], refl)
parts (Pair Zero Zero) n z = absurd (true≢false n.2)
parts (Pair Zero One) n z = in_right One _ _ (parts One n.1 (λ e. cc))
parts (Pair Zero (Pair c d)) n z = in_right (Pair c d) _ _ (parts (Pair c d) n.1 (λ e. cc))
parts (Pair One Zero) n z = in_left One _ _ (parts One n.0 (λ e. cc))
parts (Pair (Pair a b) Zero) n z = in_left (Pair a b) _ _ (parts (Pair a b) n.0 (λ e. cc))
parts (Pair One One) n z = halves One One n refl refl
parts (Pair One (Pair c d)) n z = halves One (Pair c d) n refl refl
parts (Pair (Pair a b) One) n z = halves (Pair a b) One n refl refl
parts (Pair (Pair a b) (Pair c d)) n z = halves (Pair a b) (Pair c d) n refl refl

pub split_of : (i : IdTree) → IsNormal i → i ≢ Zero → IsSplit i (left_part i) (right_part i)
split_of i n z = (parts i n z).split

pub normal_parts : (i : IdTree) → IsNormal i → i ≢ Zero → IsNormal (left_part i) × IsNormal (right_part i)
normal_parts i n z = ((parts i n z).left, (parts i n z).right)

other_than_nothing : (i : IdTree) → owns_any i ≡ true → i ≢ Zero
other_than_nothing i e z = both_ways (owns_any i) (rw z refl) e

pub left_is_id : (i l : IdTree) → l ≡ left_part i → IsId i → owns_any i ≡ true → parts_depth i ≤ depth_limit → IsId l
left_is_id i l is n e d = rw is (record { normal = (normal_parts i n.normal (other_than_nothing i e)).0; shallow = omega arith })

pub right_is_id : (i r : IdTree) → r ≡ right_part i → IsId i → owns_any i ≡ true → parts_depth i ≤ depth_limit → IsId r
right_is_id i r is n e d = rw is (record { normal = (normal_parts i n.normal (other_than_nothing i e)).1; shallow = omega arith })

pub are_split : (i l r : IdTree) → l ≡ left_part i → r ≡ right_part i → IsNormal i → owns_any i ≡ true → IsSplit i l r
are_split i l r el er n e = rw (el, er) (split_of i n (other_than_nothing i e))

-- ---- the marks of both parts

-- what appends to nothing the marks that follow from a tree
pub marks_alone : (f : IdTree → IdTree) (i : IdTree) (ms start part : List Mark) → tree_of ms ≡ i → start ≡ [] → part ≡ start ++ preorder (f (tree_of ms)) → part ≡ preorder (f i)
marks_alone f i ms start part e none is = is ∙ rw (none, e) refl

pub are_of_left : (i : IdTree) (part : List Mark) → IsId i → owns_any i ≡ true → parts_depth i ≤ depth_limit → part ≡ preorder (left_part i) → AreMarksOf (tree_of part) part
are_of_left i part n e d is = are_of (left_part i) part is (left_is_id i _ refl n e d)

pub are_of_right : (i : IdTree) (part : List Mark) → IsId i → owns_any i ≡ true → parts_depth i ≤ depth_limit → part ≡ preorder (right_part i) → AreMarksOf (tree_of part) part
are_of_right i part n e d is = are_of (right_part i) part is (right_is_id i _ refl n e d)

pub marks_split : (i : IdTree) (l r : List Mark) → IsId i → owns_any i ≡ true → l ≡ preorder (left_part i) → r ≡ preorder (right_part i) → IsSplit i (tree_of l) (tree_of r)
marks_split i l r n e left right = are_split i _ _ (tree_of_preorder _ l left) (tree_of_preorder _ r right) n.normal e
