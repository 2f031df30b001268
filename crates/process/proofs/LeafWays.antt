-- The leaves of an id, by the ways to them, and those of its two parts.
use Rattle.std.proofs.Common.{◌≡◌, ◌⊎◌, inl, inr, ℕ, zero, suc, ◌+◌, ◌≤◌, max, true, false, Option, Some, None, [], ◌∷◌, length, refl, sym, ap, arith}
use Rattle.std.proofs.lemmas.Bool.{cases_lt}
use Rattle.id_tree.specs.IdTree.{IdTree, Zero, One, Pair}
use Rattle.id_tree.specs.OneWay.{id_of_way}
use Rattle.id_tree.specs.Points.{Point, Covers}
use Rattle.id_tree.specs.Split.{left_part, right_part}
use Rattle.process.specs.Leaves.{IsLeafAt, HasLeafWithin, HasLeafThere, IsFromDeepest}
use Rattle.process.specs.working.Leaves.{AtMost, IsAsDeep, above, deepest_within}

-- ---- the leaves of two parts

-- each leaf of the id is a leaf of just one part
pub record AreHalvesOf (i l r : IdTree) : Type 0 where
  pub left : (p : Point) → HasLeafThere l p → HasLeafThere i p
  pub right : (p : Point) → HasLeafThere r p → HasLeafThere i p
  pub either : (p : Point) → HasLeafThere i p → HasLeafThere l p ⊎ HasLeafThere r p

-- the id has one leaf, in which those of both parts lie
pub record AreOfOneLeaf (i l r : IdTree) : Type 0 where
  pub way : Point
  pub leaf : HasLeafThere i way
  pub only : (p : Point) → HasLeafThere i p → p ≡ way
  pub left : (p : Point) → HasLeafThere l p → Covers (id_of_way way) (id_of_way p)
  pub right : (p : Point) → HasLeafThere r p → Covers (id_of_way way) (id_of_way p)

abbrev pub LeavesFit : IdTree → IdTree → IdTree → Type 0
LeavesFit i l r = AreHalvesOf i l r ⊎ AreOfOneLeaf i l r

pub leaves_turned : (i l r : IdTree) → LeavesFit i l r → LeavesFit i r l
leaves_turned i l r (inl h) = inl (record { left = h.right; right = h.left; either = λ p x. elim (h.either p x) [ inl y ↦ inr y | inr y ↦ inl y ] })
leaves_turned i l r (inr h) = inr (record { way = h.way; leaf = h.leaf; only = h.only; left = h.right; right = h.left })

-- ---- beside nothing on the right

same_left : (l i : IdTree) → ((p : Point) → HasLeafThere l p → HasLeafThere i p) → (p : Point) → HasLeafThere (Pair l Zero) p → HasLeafThere (Pair i Zero) p
same_left l i f [] h = h
same_left l i f (false ∷ p) h = f p h
same_left l i f (true ∷ p) h = h

either_left : (i l r : IdTree) → ((p : Point) → HasLeafThere i p → HasLeafThere l p ⊎ HasLeafThere r p) → (p : Point) → HasLeafThere (Pair i Zero) p → HasLeafThere (Pair l Zero) p ⊎ HasLeafThere (Pair r Zero) p
either_left i l r f [] h = absurd h
either_left i l r f (false ∷ p) h = f p h
either_left i l r f (true ∷ p) h = absurd h

only_left : (i : IdTree) (way : Point) → ((p : Point) → HasLeafThere i p → p ≡ way) → (p : Point) → HasLeafThere (Pair i Zero) p → p ≡ false ∷ way
only_left i way f [] h = absurd h
only_left i way f (false ∷ p) h = let e : p ≡ way = f p h in cc
only_left i way f (true ∷ p) h = absurd h

pair_left : (a b : IdTree) → Covers a b → Covers (Pair a Zero) (Pair b Zero)
pair_left a b f [] h = f [] h
pair_left a b f (false ∷ p) h = f p h
pair_left a b f (true ∷ p) h = h

covers_left : (l : IdTree) (way : Point) → ((p : Point) → HasLeafThere l p → Covers (id_of_way way) (id_of_way p)) → (p : Point) → HasLeafThere (Pair l Zero) p → Covers (id_of_way (false ∷ way)) (id_of_way p)
covers_left l way f [] h = absurd h
covers_left l way f (false ∷ p) h = pair_left (id_of_way way) (id_of_way p) (f p h)
covers_left l way f (true ∷ p) h = absurd h

in_left : (i l r : IdTree) → LeavesFit i l r → LeavesFit (Pair i Zero) (Pair l Zero) (Pair r Zero)
in_left i l r (inl h) = inl (record { left = same_left l i h.left; right = same_left r i h.right; either = either_left i l r h.either })
in_left i l r (inr h) = inr (record { way = false ∷ h.way; leaf = h.leaf; only = only_left i h.way h.only; left = covers_left l h.way h.left; right = covers_left r h.way h.right })

-- ---- beside nothing on the left

same_right : (l i : IdTree) → ((p : Point) → HasLeafThere l p → HasLeafThere i p) → (p : Point) → HasLeafThere (Pair Zero l) p → HasLeafThere (Pair Zero i) p
same_right l i f [] h = h
same_right l i f (false ∷ p) h = h
same_right l i f (true ∷ p) h = f p h

either_right : (i l r : IdTree) → ((p : Point) → HasLeafThere i p → HasLeafThere l p ⊎ HasLeafThere r p) → (p : Point) → HasLeafThere (Pair Zero i) p → HasLeafThere (Pair Zero l) p ⊎ HasLeafThere (Pair Zero r) p
either_right i l r f [] h = absurd h
either_right i l r f (false ∷ p) h = absurd h
either_right i l r f (true ∷ p) h = f p h

only_right : (i : IdTree) (way : Point) → ((p : Point) → HasLeafThere i p → p ≡ way) → (p : Point) → HasLeafThere (Pair Zero i) p → p ≡ true ∷ way
only_right i way f [] h = absurd h
only_right i way f (false ∷ p) h = absurd h
only_right i way f (true ∷ p) h = let e : p ≡ way = f p h in cc

pair_right : (a b : IdTree) → Covers a b → Covers (Pair Zero a) (Pair Zero b)
pair_right a b f [] h = h
pair_right a b f (false ∷ p) h = h
pair_right a b f (true ∷ p) h = f p h

covers_right : (l : IdTree) (way : Point) → ((p : Point) → HasLeafThere l p → Covers (id_of_way way) (id_of_way p)) → (p : Point) → HasLeafThere (Pair Zero l) p → Covers (id_of_way (true ∷ way)) (id_of_way p)
covers_right l way f [] h = absurd h
covers_right l way f (false ∷ p) h = absurd h
covers_right l way f (true ∷ p) h = pair_right (id_of_way way) (id_of_way p) (f p h)

in_right : (i l r : IdTree) → LeavesFit i l r → LeavesFit (Pair Zero i) (Pair Zero l) (Pair Zero r)
in_right i l r (inl h) = inl (record { left = same_right l i h.left; right = same_right r i h.right; either = either_right i l r h.either })
in_right i l r (inr h) = inr (record { way = true ∷ h.way; leaf = h.leaf; only = only_right i h.way h.only; left = covers_right l h.way h.left; right = covers_right r h.way h.right })

-- ---- two halves, and one leaf

of_left : (l r : IdTree) (p : Point) → HasLeafThere (Pair l Zero) p → HasLeafThere (Pair l r) p
of_left l r [] h = h
of_left l r (false ∷ p) h = h
of_left l r (true ∷ p) h = absurd h

of_right : (l r : IdTree) (p : Point) → HasLeafThere (Pair Zero r) p → HasLeafThere (Pair l r) p
of_right l r [] h = h
of_right l r (false ∷ p) h = absurd h
of_right l r (true ∷ p) h = h

of_either : (l r : IdTree) (p : Point) → HasLeafThere (Pair l r) p → HasLeafThere (Pair l Zero) p ⊎ HasLeafThere (Pair Zero r) p
of_either l r [] h = absurd h
of_either l r (false ∷ p) h = inl h
of_either l r (true ∷ p) h = inr h

halves : (l r : IdTree) → LeavesFit (Pair l r) (Pair l Zero) (Pair Zero r)
halves l r = inl (record { left = of_left l r; right = of_right l r; either = of_either l r })

only_here : (p : Point) → HasLeafThere One p → p ≡ []
only_here [] h = refl
only_here (b ∷ p) h = absurd h

pub leaves_fit : (i : IdTree) → LeavesFit i (left_part i) (right_part i)
leaves_fit Zero = inl (record { left = λ p h. h; right = λ p h. h; either = λ p h. inl h })
leaves_fit One = inr (record { way = []; leaf = tt; only = only_here; left = λ p h q x. refl; right = λ p h q x. refl })
leaves_fit (Pair Zero Zero) = in_right Zero _ _ (leaves_fit Zero)
leaves_fit (Pair Zero One) = in_right One _ _ (leaves_fit One)
leaves_fit (Pair Zero (Pair a b)) = in_right (Pair a b) _ _ (leaves_fit (Pair a b))
leaves_fit (Pair One Zero) = in_left One _ _ (leaves_fit One)
leaves_fit (Pair (Pair a b) Zero) = in_left (Pair a b) _ _ (leaves_fit (Pair a b))
leaves_fit (Pair One One) = halves One One
leaves_fit (Pair One (Pair a b)) = halves One (Pair a b)
leaves_fit (Pair (Pair a b) One) = halves (Pair a b) One
leaves_fit (Pair (Pair a b) (Pair x y)) = halves (Pair a b) (Pair x y)

-- ---- the deepest leaf that is no deeper than this

-- a leaf of this depth, which is within the limit
record HasLeafOf (i : IdTree) (d n : ℕ) : Type 0 where
  way : Point
  leaf : HasLeafThere i way
  long : length way ≡ n
  within : n ≤ d

left_of : (l r : IdTree) (d n m : ℕ) → HasLeafOf l d n → m ≡ n + 1 → HasLeafOf (Pair l r) (suc d) m
left_of l r d n m h e = record { way = false ∷ h.way; leaf = h.leaf; long = omega (arith, h.long, e); within = omega (arith, h.within, e) }

right_of : (l r : IdTree) (d n m : ℕ) → HasLeafOf r d n → m ≡ n + 1 → HasLeafOf (Pair l r) (suc d) m
right_of l r d n m h e = record { way = true ∷ h.way; leaf = h.leaf; long = omega (arith, h.long, e); within = omega (arith, h.within, e) }

some_is : (m n : ℕ) → Some m ≡ Some n → m ≡ n
some_is m n e = cc

above_is : (a b : Option ℕ) (l r : IdTree) (d n : ℕ) → ((m : ℕ) → a ≡ Some m → HasLeafOf l d m) → ((m : ℕ) → b ≡ Some m → HasLeafOf r d m) → above a b ≡ Some n → HasLeafOf (Pair l r) (suc d) n
above_is None None l r d n f g e = absurd cc
above_is (Some x) None l r d n f g e = left_of l r d x n (f x refl) (sym (some_is _ _ e))
above_is None (Some y) l r d n f g e = right_of l r d y n (g y refl) (sym (some_is _ _ e))
above_is (Some x) (Some y) l r d n f g e =
    let is : max x y + 1 ≡ n = some_is _ _ e in
    elim (cases_lt x y) [
      | inl lt ↦ right_of l r d y n (g y refl) (omega (arith, is, lt))
      | inr ge ↦ left_of l r d x n (f x refl) (omega (arith, is, ge))
    ]

deepest_is : (i : IdTree) (d n : ℕ) → deepest_within i d ≡ Some n → HasLeafOf i d n
deepest_is Zero d n e = absurd cc
deepest_is One d n e = let is : 0 ≡ n = some_is _ _ e in record { way = []; leaf = tt; long = is; within = omega arith }
deepest_is (Pair l r) zero n e = absurd cc
deepest_is (Pair l r) (suc d) n e = above_is (deepest_within l d) (deepest_within r d) l r d n (λ m f. deepest_is l d m f) (λ m f. deepest_is r d m f) e

-- the depth that is found is at least this
abbrev Finds : Option ℕ → ℕ → Type 0
Finds None n = ⊥
Finds (Some m) n = n ≤ m

above_left : (a b : Option ℕ) (n : ℕ) → Finds a n → Finds (above a b) (suc n)
above_left None b n h = absurd h
above_left (Some x) None n h = omega (arith, h)
above_left (Some x) (Some y) n h = omega (arith, h)

above_right : (a b : Option ℕ) (n : ℕ) → Finds b n → Finds (above a b) (suc n)
above_right a None n h = absurd h
above_right None (Some y) n h = omega (arith, h)
above_right (Some x) (Some y) n h = omega (arith, h)

none_deeper : (i : IdTree) (d : ℕ) (p : Point) → HasLeafThere i p → length p ≤ d → Finds (deepest_within i d) (length p)
none_deeper Zero d p h k = absurd h
none_deeper One d [] h k = omega arith
none_deeper One d (b ∷ p) h k = absurd h
none_deeper (Pair l r) zero [] h k = absurd h
none_deeper (Pair l r) zero (b ∷ p) h k = absurd (omega (arith, k))
none_deeper (Pair l r) (suc d) [] h k = absurd h
none_deeper (Pair l r) (suc d) (false ∷ p) h k = above_left (deepest_within l d) (deepest_within r d) (length p) (none_deeper l d p h (omega (arith, k)))
none_deeper (Pair l r) (suc d) (true ∷ p) h k = above_right (deepest_within l d) (deepest_within r d) (length p) (none_deeper r d p h (omega (arith, k)))

found_there : (part : IdTree) (d n : ℕ) (b : Option ℕ) → b ≡ deepest_within part d → Finds b n → (q : Point) × HasLeafThere part q × (length q ≤ d) × (n ≤ length q)
found_there part d n None e f = absurd f
found_there part d n (Some m) e f = let h = deepest_is part d m (sym e) in (h.way, h.leaf, omega (arith, h.long, h.within), omega (arith, h.long, f))

greater_finds : (a b : Option ℕ) (n : ℕ) → AtMost a b → Finds a n → Finds b n
greater_finds None b n le f = absurd f
greater_finds (Some x) None n le f = absurd le
greater_finds (Some x) (Some y) n le f = omega (arith, le, f)

pub as_deep : (rest part : IdTree) (d : ℕ) (a b : Option ℕ) → a ≡ deepest_within rest d → b ≡ deepest_within part d → AtMost a b → IsAsDeep rest part d
as_deep rest part d a b e f le = λ p leaf short. found_there part d (length p) b f (greater_finds a b (length p) le (rw e (none_deeper rest d p leaf short)))

-- ---- what is cut of a part is cut of the whole

leaf_within : (i : IdTree) (d : ℕ) → HasLeafWithin i d → (p : Point) × HasLeafThere i p × (length p ≤ d)
leaf_within Zero d h = absurd h
leaf_within One d h = ([], tt, omega arith)
leaf_within (Pair l r) zero h = absurd h
leaf_within (Pair l r) (suc d) (inl h) = let q = leaf_within l d h in (false ∷ q.0, q.1, omega (arith, q.2))
leaf_within (Pair l r) (suc d) (inr h) = let q = leaf_within r d h in (true ∷ q.0, q.1, omega (arith, q.2))

as_long : (p q : Point) → p ≡ q → length p ≡ length q
as_long p q e = ap (λ (x : Point). length x) e

pub from_part : (i rest part : IdTree) (d : ℕ) → HasLeafWithin i d → LeavesFit i rest part → IsAsDeep rest part d → (given : IdTree) → IsFromDeepest part d given → IsFromDeepest i d given
from_part i rest part d some (inl fit) deep given h = record {
  way = h.way;
  leaf = fit.right h.way h.leaf;
  within = h.within;
  deepest = λ p leaf short. elim (fit.either p leaf) [
    | inl x ↦ let q = deep p x short in let le : length q.0 ≤ length h.way = h.deepest q.0 q.1 q.2 in omega (arith, q.3, le)
    | inr x ↦ h.deepest p x short
  ];
  part = h.part;
}
from_part i rest part d some (inr fit) deep given h = record {
  way = fit.way;
  leaf = fit.leaf;
  within = let q = leaf_within i d some in omega (arith, q.2, as_long q.0 fit.way (fit.only q.0 q.1));
  deepest = λ p leaf short. omega (arith, as_long p fit.way (fit.only p leaf));
  part = λ q x. fit.right h.way h.leaf q (h.part q x);
}

-- ---- one leaf alone is cut of itself

record IsOneLeaf (d : ℕ) (i : IdTree) : Type 0 where
  way : Point
  leaf : HasLeafThere i way
  long : length way ≡ d
  whole : i ≡ id_of_way way

in_left_half : (d : ℕ) (l : IdTree) → IsOneLeaf d l → IsOneLeaf (suc d) (Pair l Zero)
in_left_half d l h = record { way = false ∷ h.way; leaf = h.leaf; long = omega (arith, h.long); whole = ap (λ (x : IdTree). Pair x Zero) h.whole }

in_right_half : (d : ℕ) (r : IdTree) → IsOneLeaf d r → IsOneLeaf (suc d) (Pair Zero r)
in_right_half d r h = record { way = true ∷ h.way; leaf = h.leaf; long = omega (arith, h.long); whole = ap (λ (x : IdTree). Pair Zero x) h.whole }

one_leaf : (d : ℕ) (i : IdTree) → IsLeafAt d i → IsOneLeaf d i
one_leaf zero Zero h = absurd h
one_leaf zero One h = record { way = []; leaf = tt; long = refl; whole = refl }
one_leaf zero (Pair l r) h = absurd h
one_leaf (suc d) Zero h = absurd h
one_leaf (suc d) One h = absurd h
one_leaf (suc d) (Pair l Zero) h = in_left_half d l (one_leaf d l h)
one_leaf (suc d) (Pair Zero One) h = in_right_half d One (one_leaf d One h)
one_leaf (suc d) (Pair Zero (Pair a b)) h = in_right_half d (Pair a b) (one_leaf d (Pair a b) h)
one_leaf (suc d) (Pair One One) h = absurd h
one_leaf (suc d) (Pair One (Pair a b)) h = absurd h
one_leaf (suc d) (Pair (Pair a b) One) h = absurd h
one_leaf (suc d) (Pair (Pair a b) (Pair x y)) h = absurd h

pub from_itself : (d : ℕ) (i : IdTree) → IsLeafAt d i → IsFromDeepest i d i
from_itself d i h =
    let one = one_leaf d i h in
    record { way = one.way; leaf = one.leaf; within = omega (arith, one.long); deepest = λ p leaf short. omega (arith, one.long, short); part = λ p x. rw (← one.whole) x }
