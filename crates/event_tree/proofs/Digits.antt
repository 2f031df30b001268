-- The number that says where a walk over entries stands: which brackets it closes, and how large it becomes.
use Rattle.std.proofs.Common.{◌≡◌, ℕ, ◌+◌, ◌*◌, ◌/◌, ◌%◌, ◌^◌, ◌<◌, ◌≤◌, zero, suc, List, [], ◌∷◌, ◌++◌, refl, ap, ◌∙◌, arith, append_assoc, append-nil, false, subst}
use Rattle.std.specs.Prelude.{nat_le}
use Rattle.std.proofs.Math.Pow.{pow_mono}
use Rattle.std.proofs.lemmas.Bool.{lt-leb}
use Rattle.event_tree.specs.EventTree.{EventTree, Leaf, Node}
use Rattle.event_tree.specs.NormalForm.{depth}
use Rattle.event_tree.specs.Size.{size}
use Rattle.event_tree.specs.working.Entries.{entry, preorder}
use Rattle.event_tree.specs.working.Pieces.{by_digit, closing_of, turned_of, closing, turned, behind, AreKept}
use Rattle.event_tree.specs.declared.layout.entries.Entry.{Entry}
use Rattle.event_tree.proofs.Preorder.{some_size}

same_by : {A : Type 0} (d : ℕ) (x y z : A) → (1 ≤ d → y ≡ z) → by_digit d x y ≡ by_digit d x z
same_by zero x y z f = refl
same_by (suc d) x y z f = f (omega arith)

-- the number of digits that are looked at does not matter
closing_same : (m n w : ℕ) → w ≤ m → w ≤ n → closing_of m w ≡ closing_of n w
closing_same zero zero w h k = refl
closing_same zero (suc n) w h k = let none : w % 2 ≡ 0 = omega (arith, h) in rw none refl
closing_same (suc m) zero w h k = let none : w % 2 ≡ 0 = omega (arith, k) in rw none refl
closing_same (suc m) (suc n) w h k =
    same_by (w % 2) [] (41 ∷ closing_of m (w / 2)) (41 ∷ closing_of n (w / 2))
    (λ odd. ap (λ (bs : List ℕ). 41 ∷ bs) (closing_same m n (w / 2) (omega (arith, odd, h)) (omega (arith, odd, k))))

turned_same : (m n w : ℕ) → w ≤ m → w ≤ n → turned_of m w ≡ turned_of n w
turned_same zero zero w h k = refl
turned_same zero (suc n) w h k = let none : w % 2 ≡ 0 = omega (arith, h) in rw none refl
turned_same (suc m) zero w h k = let none : w % 2 ≡ 0 = omega (arith, k) in rw none refl
turned_same (suc m) (suc n) w h k =
    same_by (w % 2) (w + 1) (turned_of m (w / 2)) (turned_of n (w / 2))
    (λ odd. turned_same m n (w / 2) (omega (arith, odd, h)) (omega (arith, odd, k)))

closing_one : (n w : ℕ) → w % 2 ≡ 1 → w ≤ n → closing_of n w ≡ 41 ∷ closing (w / 2)
closing_one zero w e h = absurd (omega (arith, e, h))
closing_one (suc n) w e h = rw e (ap (λ (bs : List ℕ). 41 ∷ bs) (closing_same n (w / 2) (w / 2) (omega (arith, e, h)) (omega arith)))

turned_one : (n w : ℕ) → w % 2 ≡ 1 → w ≤ n → turned_of n w ≡ turned (w / 2)
turned_one zero w e h = absurd (omega (arith, e, h))
turned_one (suc n) w e h = rw e (turned_same n (w / 2) (w / 2) (omega (arith, e, h)) (omega arith))

closing_none : (n w : ℕ) → w % 2 ≡ 0 → closing_of n w ≡ []
closing_none zero w e = refl
closing_none (suc n) w e = rw e refl

turned_none : (n w : ℕ) → w % 2 ≡ 0 → turned_of n w ≡ w + 1
turned_none zero w e = refl
turned_none (suc n) w e = rw e refl

-- in the second half of a node
pub closing_odd : (w : ℕ) → w % 2 ≡ 1 → closing w ≡ 41 ∷ closing (w / 2)
closing_odd w e = closing_one w w e (omega arith)

pub turned_odd : (w : ℕ) → w % 2 ≡ 1 → turned w ≡ turned (w / 2)
turned_odd w e = turned_one w w e (omega arith)

-- and in the first one
pub closing_even : (w : ℕ) → w % 2 ≡ 0 → closing w ≡ []
closing_even w e = closing_none w w e

pub turned_even : (w : ℕ) → w % 2 ≡ 0 → turned w ≡ w + 1
turned_even w e = turned_none w w e

-- behind the first half of a node, and behind its second
pub turned_first : (w : ℕ) → turned (w * 2) ≡ w * 2 + 1
turned_first w = turned_even (w * 2) (omega arith)

pub closing_second : (w : ℕ) → closing (w * 2 + 1) ≡ 41 ∷ closing w
closing_second w = let half : (w * 2 + 1) / 2 ≡ w = omega arith in closing_odd (w * 2 + 1) (omega arith) ∙ rw half refl

pub turned_second : (w : ℕ) → turned (w * 2 + 1) ≡ turned w
turned_second w = let half : (w * 2 + 1) / 2 ≡ w = omega arith in turned_odd (w * 2 + 1) (omega arith) ∙ rw half refl

-- ---- how large it becomes

pub behind_node : (n s w : ℕ) → 1 < s → behind (entry n s) w ≡ w * 2
behind_node n s w h = let big : nat_le s 1 ≡ false = lt-leb s 1 h in rw big refl

kept_below : (w l : ℕ) → w < 2 ^ l → l ≤ 63 → w < 2 ^ 63
kept_below w l h k = omega (arith, h, pow_mono k)

-- of a tree that is not too deep no digit is lost
pub kept : (t : EventTree) (l w : ℕ) (es : List Entry) → w < 2 ^ l → l + depth t ≤ 63 → AreKept (turned w) es → AreKept w (preorder t ++ es)
kept (Leaf n) l w es h k rest = (kept_below w l h (omega (arith, k)), rest)
kept (Node n a b) l w es h k rest =
    let two : 2 ^ suc l ≡ 2 ^ l * 2 = omega arith in
    let other : AreKept (turned (w * 2)) (preorder b ++ es) = rw (turned_first w) (kept b (suc l) (w * 2 + 1) es (omega (arith, h, two)) (omega (arith, k)) (rw (turned_second w) rest)) in
    let both : AreKept (w * 2) (preorder a ++ (preorder b ++ es)) = kept a (suc l) (w * 2) (preorder b ++ es) (omega (arith, h, two)) (omega (arith, k)) other in
    (kept_below w l h (omega (arith, k)), rw (behind_node n (size a + size b + 1) w (omega (arith, some_size a)), append_assoc (preorder a) (preorder b) es) both)

pub halves_kept : (a b : EventTree) → depth a ≤ 40 → depth b ≤ 40 → AreKept 0 (preorder a ++ preorder b)
halves_kept a b h k =
    let other : AreKept 1 (preorder b ++ []) = kept b 1 1 [] (omega arith) (omega (arith, k)) tt in
    subst (λ (es : List Entry). AreKept 0 (preorder a ++ es)) (append-nil (preorder b)) (kept a 0 0 (preorder b ++ []) (omega arith) (omega (arith, h)) other)
