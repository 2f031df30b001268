-- How deep an id is, by the points that it owns: those that agree down to its depth are owned alike.
use Rattle.std.proofs.Common.{◌≡◌, ◌⊎◌, inl, inr, ℕ, zero, suc, ◌≤◌, Bool, true, false, ◌||◌, ◌&&◌, if◌then◌else◌, [], ◌∷◌, IsTrue, refl, sym, ◌∙◌, ap, arith}
use Rattle.std.specs.Prelude.{not, ⊤}
use Rattle.id_tree.specs.IdTree.{IdTree, Zero, One, Pair}
use Rattle.id_tree.specs.NormalForm.{IsNormal, are_equal_leaves, depth}
use Rattle.id_tree.specs.Points.{Point, owns, AreDisjoint, AreTogether}
use Rattle.process.specs.Shallow.{LeafIsAsDeep, StaysBehindAFork, StaysBehindAnAbsorption}

-- the first bit, and the others, where a missing bit is false
abbrev head : Point → Bool
head [] = false
head (b ∷ p) = b

abbrev tail : Point → Point
tail [] = []
tail (b ∷ p) = p

-- the two points have the same first bits, so many
abbrev Agree : ℕ → Point → Point → Type 0
Agree zero p q = ⊤
Agree (suc d) p q = (head p ≡ head q) × Agree d (tail p) (tail q)

-- points that agree so far are owned alike
abbrev IsEvenBelow : ℕ → IdTree → Type 0
IsEvenBelow d i = (p q : Point) → Agree d p q → owns i p ≡ owns i q

owned_in_half : (l r : IdTree) (p : Point) → owns (Pair l r) p ≡ (if head p then owns r (tail p) else owns l (tail p))
owned_in_half l r [] = refl
owned_in_half l r (false ∷ p) = refl
owned_in_half l r (true ∷ p) = refl

in_same_half : (a b x y z w : Bool) → a ≡ b → x ≡ y → z ≡ w → (if a then z else x) ≡ (if b then w else y)
in_same_half true true x y z w same left right = right
in_same_half false false x y z w same left right = left
in_same_half true false x y z w same left right = absurd (cc)
in_same_half false true x y z w same left right = absurd (cc)

even_below : (i : IdTree) (d : ℕ) → depth i ≤ d → IsEvenBelow d i
even_below Zero d le p q agree = refl
even_below One d le p q agree = refl
even_below (Pair l r) zero le p q agree = absurd (omega (arith, le))
even_below (Pair l r) (suc d) le p q agree =
    owned_in_half l r p
    ∙ (in_same_half (head p) (head q) (owns l (tail p)) (owns l (tail q)) (owns r (tail p)) (owns r (tail q)) agree.0
    (even_below l d (omega (arith, le)) (tail p) (tail q) agree.1) (even_below r d (omega (arith, le)) (tail p) (tail q) agree.1)
    ∙ sym (owned_in_half l r q))

abbrev IsLeaf : IdTree → Type 0
IsLeaf i = (i ≡ Zero) ⊎ (i ≡ One)

two_leaves : (l r : IdTree) → IsLeaf l → IsLeaf r → are_equal_leaves l r ≡ false → owns l [] ≡ owns r [] → ⊥
two_leaves l r (inl none) (inl nothing) normal alike = let same = (rw (none, nothing) at normal) in cc
two_leaves l r (inl none) (inr all) normal alike = let same = (rw (none, all) at alike) in cc
two_leaves l r (inr all) (inl none) normal alike = let same = (rw (all, none) at alike) in cc
two_leaves l r (inr all) (inr whole) normal alike = let same = (rw (all, whole) at normal) in cc

-- an id that owns all points alike is a leaf
even_is_leaf : (i : IdTree) → IsNormal i → IsEvenBelow 0 i → IsLeaf i
even_is_leaf Zero normal even = inl refl
even_is_leaf One normal even = inr refl
even_is_leaf (Pair l r) normal even =
    absurd
    (two_leaves l r (even_is_leaf l normal.0 (λ p q agree. even (false ∷ p) (false ∷ q) tt)) (even_is_leaf r normal.1 (λ p q agree. even (true ∷ p) (true ∷ q) tt)) normal.2
    (even (false ∷ []) (true ∷ []) tt))

no_deeper : (i : IdTree) (d : ℕ) → IsNormal i → IsEvenBelow d i → depth i ≤ d
no_deeper Zero d normal even = omega arith
no_deeper One d normal even = omega arith
no_deeper (Pair l r) zero normal even = elim (even_is_leaf (Pair l r) normal even) [ inl none ↦ absurd (cc) | inr all ↦ absurd (cc) ]
no_deeper (Pair l r) (suc d) normal even =
    omega (arith, no_deeper l d normal.0 (λ p q agree. even (false ∷ p) (false ∷ q) (refl, agree)), no_deeper r d normal.1 (λ p q agree. even (true ∷ p) (true ∷ q) (refl, agree)))

-- what is owned of a whole, and not by its part
rest_of : (whole rest part : Bool) → whole ≡ (rest || part) → (IsTrue rest → part ≡ false) → rest ≡ (whole && not part)
rest_of whole true true is apart = absurd (let none = apart refl in cc)
rest_of whole true false is apart = sym (ap (λ (b : Bool). b && true) is)
rest_of whole false true is apart = sym (ap (λ (b : Bool). b && false) is)
rest_of whole false false is apart = sym (ap (λ (b : Bool). b && true) is)

both_alike : (a b x y : Bool) → a ≡ b → x ≡ y → (a && not x) ≡ (b && not y)
both_alike a b x y first second = rw (first, second) refl

either_alike : (a b x y : Bool) → a ≡ b → x ≡ y → (a || x) ≡ (b || y)
either_alike a b x y first second = rw (first, second) refl

rest_is_no_deeper : (i rest part : IdTree) (d : ℕ) → IsNormal rest → AreDisjoint rest part → AreTogether rest part i → depth i ≤ d → depth part ≤ d → depth rest ≤ d
rest_is_no_deeper i rest part d normal apart together whole_le part_le =
    no_deeper rest d normal
    (λ p q agree.
    rest_of (owns i p) (owns rest p) (owns part p) (together p) (apart p)
    ∙ (both_alike (owns i p) (owns i q) (owns part p) (owns part q) (even_below i d whole_le p q agree) (even_below part d part_le p q agree)
    ∙ sym (rest_of (owns i q) (owns rest q) (owns part q) (together q) (apart q))))

sum_is_no_deeper : (i j sum : IdTree) (d : ℕ) → IsNormal sum → AreTogether i j sum → depth i ≤ d → depth j ≤ d → depth sum ≤ d
sum_is_no_deeper i j sum d normal together i_le j_le =
    no_deeper sum d normal
    (λ p q agree.
    together p
    ∙ (either_alike (owns i p) (owns i q) (owns j p) (owns j q) (even_below i d i_le p q agree) (even_below j d j_le p q agree) ∙ sym (together q)))

-- ---- the laws

pub leaf_is_as_deep : LeafIsAsDeep
leaf_is_as_deep zero Zero h = absurd h
leaf_is_as_deep zero One h = refl
leaf_is_as_deep zero (Pair l r) h = absurd h
leaf_is_as_deep (suc d) Zero h = absurd h
leaf_is_as_deep (suc d) One h = absurd h
leaf_is_as_deep (suc d) (Pair l Zero) h = omega (arith, leaf_is_as_deep d l h)
leaf_is_as_deep (suc d) (Pair Zero One) h = omega (arith, leaf_is_as_deep d One h)
leaf_is_as_deep (suc d) (Pair Zero (Pair a b)) h = omega (arith, leaf_is_as_deep d (Pair a b) h)
leaf_is_as_deep (suc d) (Pair One One) h = absurd h
leaf_is_as_deep (suc d) (Pair One (Pair a b)) h = absurd h
leaf_is_as_deep (suc d) (Pair (Pair a b) One) h = absurd h
leaf_is_as_deep (suc d) (Pair (Pair a b) (Pair x y)) h = absurd h

pub stays_behind_a_fork : StaysBehindAFork
stays_behind_a_fork old new start line d is forks leaf le =
    let part : depth start.stamp.id ≤ d = omega (arith, leaf_is_as_deep d start.stamp.id leaf) in
    rest_is_no_deeper old.stamp.id new.stamp.id start.stamp.id d is.stamp.id.normal forks.split.disjoint forks.split.together le part

pub stays_behind_an_absorption : StaysBehindAnAbsorption
stays_behind_an_absorption old new retirement line d is absorbs le part =
    sum_is_no_deeper old.stamp.id retirement.stamp.id new.stamp.id d is.stamp.id.normal absorbs.stamped.together le part
