-- The trees that marks stand for.
use Rattle.std.proofs.Common.{◌≡◌, ◌≢◌, ℕ, zero, suc, ◌+◌, ◌≤◌, ◌<◌, List, [], ◌∷◌, ◌++◌, ◌↔◌, inl, inr, length, take, drop, get_or, refl, sym, ap, subst, ◌∙◌, arith, add-one, drop-cons, append_assoc, append-nil, length-drop, length-append}
use Rattle.std.proofs.lemmas.List.{append_cancel_right, take-append-drop}
use Rattle.std.proofs.Math.ListN.{drop_of_length-le}
use Rattle.id_tree.specs.IdTree.{IdTree, Zero, One, Pair}
use Rattle.id_tree.specs.Size.{size}
use Rattle.id_tree.specs.NormalForm.{IsId}
use Rattle.id_tree.specs.working.Marks.{preorder, preorders, first, later, trees_of, tree_of, IsLeaf, HasTrees, IsBehind, AreMarksOf}
use Rattle.id_tree.specs.declared.marks.Mark.{Mark}
use Rattle.id_tree.specs.declared.marks.Mark.TheVariants as marks

-- ---- the walk over the marks of a tree

dropped_nil : (n : ℕ) → drop {A = IdTree} n [] ≡ []
dropped_nil zero = refl
dropped_nil (suc n) = refl

later_later : (n : ℕ) (ts : List IdTree) → drop n (later (later ts)) ≡ drop (suc (suc n)) ts
later_later n [] = dropped_nil n
later_later n (t ∷ []) = dropped_nil n
later_later n (t ∷ u ∷ ts) = refl

pub is_later : (ts : List IdTree) → drop 1 ts ≡ later ts
is_later [] = refl
is_later (t ∷ ts) = refl

-- behind a pair two trees are pending in its place
pair_opens : (n : ℕ) (ms rest : List Mark) → ms ≡ marks.Pair ∷ rest → drop (suc n) (trees_of ms) ≡ drop (suc (suc n)) (trees_of rest)
pair_opens n ms rest e = rw e (later_later n (trees_of rest))

leaf_closes : (n : ℕ) (ms rest : List Mark) (m : Mark) → ms ≡ m ∷ rest → IsLeaf m → drop (suc n) (trees_of ms) ≡ drop n (trees_of rest)
leaf_closes n ms rest m e (inl h) = rw (e, h) refl
leaf_closes n ms rest m e (inr h) = rw (e, h) refl

from_mark : (ms : List Mark) (i : ℕ) → i < length ms → drop i ms ≡ get_or ms i marks.Zero ∷ drop (i + 1) ms
from_mark ms i h = rw add-one (drop-cons ms i marks.Zero h)

pub at_pair : (n k i : ℕ) (ms : List Mark) (us : List IdTree) → i < length ms → 1 ≤ n → k ≡ n + 1 → get_or ms i marks.Zero ≡ marks.Pair → drop n (trees_of (drop i ms)) ≡ us → drop k (trees_of (drop (i + 1) ms)) ≡ us
at_pair zero k i ms us h l up e g = absurd (omega arith)
at_pair (suc n) k i ms us h l up e g =
    let here : drop i ms ≡ marks.Pair ∷ drop (i + 1) ms = from_mark ms i h ∙ ap (λ (m : Mark). m ∷ drop (i + 1) ms) e in
    let more : k ≡ suc (suc n) = omega arith in
    rw more (sym (pair_opens n (drop i ms) (drop (i + 1) ms) here) ∙ g)

pub at_leaf : (n k i : ℕ) (ms : List Mark) (us : List IdTree) → i < length ms → n ≡ k + 1 → IsLeaf (get_or ms i marks.Zero) → drop n (trees_of (drop i ms)) ≡ us → drop k (trees_of (drop (i + 1) ms)) ≡ us
at_leaf n k i ms us h up e g =
    let more : n ≡ suc k = omega arith in
    sym (leaf_closes k (drop i ms) (drop (i + 1) ms) (get_or ms i marks.Zero) (from_mark ms i h) e) ∙ subst (λ (m : ℕ). drop m (trees_of (drop i ms)) ≡ us) more g

pub at_end : (n i : ℕ) (ms : List Mark) (us : List IdTree) → length ms ≤ i → drop n (trees_of (drop i ms)) ≡ us → trees_of (drop (length ms) ms) ≡ us
at_end n i ms us h e =
    let last : drop (length ms) ms ≡ [] = drop_of_length-le ms (omega arith) in
    let here : drop i ms ≡ [] = drop_of_length-le ms h in
    rw last (sym (dropped_nil n) ∙ ap (λ (xs : List Mark). drop n (trees_of xs)) (sym here) ∙ e)

-- ---- whole trees

trees-preorder : (t : IdTree) (ms : List Mark) → trees_of (preorder t ++ ms) ≡ t ∷ trees_of ms
trees-preorder Zero ms = refl
trees-preorder One ms = refl
trees-preorder (Pair l r) ms =
    let inside : trees_of ((preorder l ++ preorder r) ++ ms) ≡ l ∷ r ∷ trees_of ms =
    ap trees_of (append_assoc (preorder l) (preorder r) ms) ∙ trees-preorder l (preorder r ++ ms) ∙ ap (λ ts. l ∷ ts) (trees-preorder r ms) in
    rw inside refl

-- the marks of trees stand for them
pub trees-preorders : (ts : List IdTree) → trees_of (preorders ts) ≡ ts
trees-preorders [] = refl
trees-preorders (t ∷ ts) = trees-preorder t (preorders ts) ∙ ap (λ us. t ∷ us) (trees-preorders ts)

-- and those of one tree for it alone
pub trees_of_preorder : (t : IdTree) → trees_of (preorder t) ≡ t ∷ []
trees_of_preorder t = ap trees_of (sym (append-nil (preorder t))) ∙ trees-preorder t []

cons_rest : (x y : Mark) (xs ys : List Mark) → x ∷ xs ≡ y ∷ ys → xs ≡ ys
cons_rest x y xs ys e = cc

-- inside of a pair stand its halves, and then what stands behind it
in_pair : (ms : List Mark) → preorders (trees_of (marks.Pair ∷ ms)) ≡ marks.Pair ∷ ms → HasTrees 2 ms
in_pair ms e =
    let l = first (trees_of ms) in
    let r = first (later (trees_of ms)) in
    let behind = later (later (trees_of ms)) in
    let is : preorders (l ∷ r ∷ behind) ≡ ms = sym (append_assoc (preorder l) (preorder r) (preorders behind)) ∙ cons_rest marks.Pair marks.Pair _ ms e in
    let trees : trees_of ms ≡ l ∷ r ∷ behind = ap trees_of (sym is) ∙ trees-preorders (l ∷ r ∷ behind) in
    record { whole = ap preorders trees ∙ is; enough = rw trees (omega arith) }

whole_rest : (m : Mark) (ms : List Mark) → preorders (trees_of (m ∷ ms)) ≡ m ∷ ms → preorders (trees_of ms) ≡ ms
whole_rest marks.Zero ms e = cons_rest marks.Zero marks.Zero _ ms e
whole_rest marks.One ms e = cons_rest marks.One marks.One _ ms e
whole_rest marks.Pair ms e = (in_pair ms e).whole

whole_drop : (n : ℕ) (ms : List Mark) → preorders (trees_of ms) ≡ ms → preorders (trees_of (drop n ms)) ≡ drop n ms
whole_drop zero ms e = e
whole_drop (suc n) [] e = refl
whole_drop (suc n) (m ∷ ms) e = whole_drop n ms (whole_rest m ms e)

first_and_later : (ts : List IdTree) → 1 ≤ length ts → preorders ts ≡ preorder (first ts) ++ preorders (later ts)
first_and_later [] h = absurd (omega arith)
first_and_later (t ∷ ts) h = refl

pub first_marks : (n : ℕ) (ms front : List Mark) → front ≡ take n ms → n ≤ length ms → trees_of (drop n ms) ≡ later (trees_of ms) → HasTrees 1 ms → front ≡ preorder (tree_of ms)
first_marks n ms front e h t w =
    let behind : drop n ms ≡ preorders (later (trees_of ms)) = sym (whole_drop n ms w.whole) ∙ ap preorders t in
    let both : take n ms ++ drop n ms ≡ preorder (tree_of ms) ++ drop n ms =
    take-append-drop n ms ∙ sym w.whole ∙ first_and_later (trees_of ms) w.enough ∙ ap (λ (xs : List Mark). preorder (tree_of ms) ++ xs) (sym behind) in
    e ∙ append_cancel_right (take n ms) (preorder (tree_of ms)) (drop n ms) both

pub behind_first : (n : ℕ) (ms rest : List Mark) → rest ≡ drop n ms → n ≤ length ms → trees_of (drop n ms) ≡ later (trees_of ms) → IsBehind ms rest
behind_first n ms rest e h t = record {
  trees = ap trees_of e ∙ t;
  whole = λ w. rw e (whole_drop n ms w);
  shorter = omega (arith, ap length e, length-drop n ms);
}

-- ---- the halves of a pair

pub starts : (ms rest : List Mark) (m : Mark) → rest ≡ drop 1 ms → 0 < length ms → get_or ms 0 marks.Zero ≡ m → ms ≡ m ∷ rest
starts ms rest m e h g = drop-cons ms 0 marks.Zero h ∙ rw (g, e) refl

pub inside_pair : (ms rest : List Mark) → rest ≡ drop 1 ms → 0 < length ms → get_or ms 0 marks.Zero ≡ marks.Pair → HasTrees 1 ms → HasTrees 2 rest
inside_pair ms rest e h g w =
    let is : ms ≡ marks.Pair ∷ rest = starts ms rest marks.Pair e h g in
    in_pair rest (rw is at w.whole)

pub one_of_two : (ms : List Mark) → HasTrees 2 ms → HasTrees 1 ms
one_of_two ms w = record { whole = w.whole; enough = omega (arith, w.enough) }

length-later : (ts : List IdTree) → 2 ≤ length ts → 1 ≤ length (later ts)
length-later [] h = absurd (omega arith)
length-later (t ∷ ts) h = omega arith

pub second_half : (ms rest : List Mark) → HasTrees 2 ms → IsBehind ms rest → HasTrees 1 rest
second_half ms rest w b = record { whole = b.whole w.whole; enough = rw b.trees (length-later (trees_of ms) w.enough) }

pub behind_halves : (ms inside middle rest : List Mark) → inside ≡ drop 1 ms → 0 < length ms → get_or ms 0 marks.Zero ≡ marks.Pair → IsBehind inside middle → IsBehind middle rest → IsBehind ms rest
behind_halves ms inside middle rest e h g b c =
    let is : ms ≡ marks.Pair ∷ inside = starts ms inside marks.Pair e h g in
    rw is (record {
      trees = c.trees ∙ ap later b.trees;
      whole = λ w. c.whole (b.whole (in_pair inside w).whole);
      shorter = omega (arith, b.shorter, c.shorter);
    })

pub behind_leaf : (ms rest : List Mark) (m : Mark) → rest ≡ drop 1 ms → 0 < length ms → get_or ms 0 marks.Zero ≡ m → IsLeaf m → IsBehind ms rest
behind_leaf ms rest m e h g (inl z) =
    let is : ms ≡ marks.Zero ∷ rest = starts ms rest marks.Zero e h (g ∙ z) in
    rw is (record { trees = refl; whole = whole_rest marks.Zero rest; shorter = omega arith })
behind_leaf ms rest m e h g (inr z) =
    let is : ms ≡ marks.One ∷ rest = starts ms rest marks.One e h (g ∙ z) in
    rw is (record { trees = refl; whole = whole_rest marks.One rest; shorter = omega arith })

-- ---- the marks of an id

pub tree_of_preorder : (i : IdTree) (ms : List Mark) → ms ≡ preorder i → tree_of ms ≡ i
tree_of_preorder i ms e = ap tree_of e ∙ ap first (trees_of_preorder i)

pub are_of : (i : IdTree) (ms : List Mark) → ms ≡ preorder i → IsId i → AreMarksOf (tree_of ms) ms
are_of i ms e n = rw (tree_of_preorder i ms e) (record { are = e; id = n })

-- the trees that the marks of an id stand for are that id alone
pub one_id : (i : IdTree) (ms : List Mark) → AreMarksOf i ms → trees_of ms ≡ i ∷ []
one_id i ms h = ap trees_of h.are ∙ trees_of_preorder i

pub one_tree : (i : IdTree) (ms : List Mark) → AreMarksOf i ms → HasTrees 1 ms
one_tree i ms h =
    let trees : trees_of ms ≡ i ∷ [] = one_id i ms h in
    record { whole = ap preorders trees ∙ append-nil (preorder i) ∙ sym h.are; enough = rw trees (omega arith) }

length-preorder : (i : IdTree) → length (preorder i) ≡ size i
length-preorder Zero = refl
length-preorder One = refl
length-preorder (Pair l r) = omega (arith, length-append (preorder l) (preorder r), length-preorder l, length-preorder r)

pub length_of_id : (i : IdTree) (ms : List Mark) → AreMarksOf i ms → length ms ≡ size i
length_of_id i ms h = ap length h.are ∙ length-preorder i

pub same_marks : (i j : IdTree) (ms ns : List Mark) → AreMarksOf i ms → AreMarksOf j ns → (ms ≡ ns) ↔ (i ≡ j)
same_marks i j ms ns h k = (
  λ e. sym (tree_of_preorder i ms h.are) ∙ ap tree_of e ∙ tree_of_preorder j ns k.are,
  λ e. h.are ∙ ap preorder e ∙ sym k.are,
)

pub has_marks : (n : ℕ) (ms : List Mark) → 1 ≤ n → HasTrees n ms → 0 < length ms
has_marks n [] h w = absurd (omega (arith, w.enough))
has_marks n (m ∷ ms) h w = omega arith

-- a pair is that of the trees inside
pub pair_tree : (ms inside rest : List Mark) → inside ≡ drop 1 ms → 0 < length ms → get_or ms 0 marks.Zero ≡ marks.Pair → IsBehind inside rest → tree_of ms ≡ Pair (tree_of inside) (tree_of rest)
pair_tree ms inside rest e h g b =
    let is : ms ≡ marks.Pair ∷ inside = starts ms inside marks.Pair e h g in
    rw (is, b.trees) refl

pub is_nothing : (ms : List Mark) → get_or ms 0 marks.Zero ≡ marks.Zero → tree_of ms ≡ Zero
is_nothing [] e = refl
is_nothing (marks.Zero ∷ ms) e = refl
is_nothing (marks.One ∷ ms) e = absurd (cc)
is_nothing (marks.Pair ∷ ms) e = absurd (cc)

pub is_something : (ms : List Mark) → get_or ms 0 marks.Zero ≢ marks.Zero → tree_of ms ≢ Zero
is_something [] n e = n refl
is_something (marks.Zero ∷ ms) n e = n refl
is_something (marks.One ∷ ms) n e = cc
is_something (marks.Pair ∷ ms) n e = cc
