-- Pairs of trees that are still to be compared.
use Rattle.std.proofs.Common.{◌≡◌, ◌≢◌, ℕ, zero, suc, ◌+◌, ◌-◌, ◌≤◌, ◌<◌, false, true, Bool, List, [], ◌∷◌, length, get_or, set, le-leb, refl, sym, ap, ◌∙◌, arith, subst, length-set, get_or-set_same, get_or-set_other}
use Rattle.std.specs.Prelude.{nat_le, ◌&&◌}
use Rattle.std.proofs.lemmas.Bool.{lt-leb}
use Rattle.event_tree.specs.EventTree.{EventTree, Leaf, Node}
use Rattle.event_tree.specs.NormalForm.{IsNormal, greatest}
use Rattle.event_tree.specs.Halves.{root}
use Rattle.event_tree.specs.Size.{size}
use Rattle.event_tree.specs.working.Entries.{first, later}
use Rattle.event_tree.specs.working.Tests.{is_below_from}
use Rattle.event_tree.specs.working.Sequences.{halved}
use Rattle.event_tree.specs.working.Pending.{bases_at, waiting, are_below, ArePairs, sizes, IsLeft}
use Rattle.event_tree.specs.declared.order.Bases.{Bases}
use Rattle.event_tree.proofs.Trees.{root_least}
use Rattle.event_tree.proofs.Preorder.{some_size}
use Rattle.event_tree.proofs.Orders.{below_leaf}

-- ---- one pair, by the sizes of its trees

below_of_leaf : (x : ℕ) (t : EventTree) (y : ℕ) (u : EventTree) (m n : ℕ) → size t ≤ 1 → m ≡ root t → n ≡ root u → IsNormal u → nat_le (x + m) (y + n) ≡ is_below_from x t y u
below_of_leaf x (Leaf k) y u m n small e f normal = let least_is = f ∙ root_least u normal in rw (e, least_is) refl
below_of_leaf x (Node k a b) y u m n small e f normal = absurd (omega (arith, small, some_size a, some_size b))

pub below_a_leaf : (x : ℕ) (t : EventTree) (y : ℕ) (u : EventTree) (n : ℕ) → size u ≤ 1 → n ≡ root u → nat_le (x + greatest t) (y + n) ≡ is_below_from x t y u
below_a_leaf x t y (Leaf k) n small e = rw e (below_leaf x t y k)
below_a_leaf x t y (Node k a b) n small e = absurd (omega (arith, small, some_size a, some_size b))

pub leaf_below : (x : ℕ) (t : EventTree) (y : ℕ) (u : EventTree) (m n : ℕ) → size t ≤ 1 → m ≡ root t → n ≡ root u → IsNormal u → x + m ≤ y + n → is_below_from x t y u ≡ true
leaf_below x t y u m n small e f normal h = sym (below_of_leaf x t y u m n small e f normal) ∙ le-leb (x + m) (y + n) h

pub leaf_not_below : (x : ℕ) (t : EventTree) (y : ℕ) (u : EventTree) (m n : ℕ) → size t ≤ 1 → m ≡ root t → n ≡ root u → IsNormal u → y + n < x + m → is_below_from x t y u ≡ false
leaf_not_below x t y u m n small e f normal h = sym (below_of_leaf x t y u m n small e f normal) ∙ lt-leb (x + m) (y + n) h

-- ---- the stack

waiting-set : (stack : List Bases) (i n : ℕ) (b : Bases) → n ≤ i → waiting (set stack i b) n ≡ waiting stack n
waiting-set stack i zero b h = refl
waiting-set stack i (suc n) b h =
    let other : n ≢ i = omega arith in
    let below : n ≤ i = omega arith in
    rw (get_or-set_other, waiting-set stack i n b below) refl

waiting_more : (stack : List Bases) (n : ℕ) (b : Bases) → n < length stack → waiting (set stack n b) (suc n) ≡ b ∷ waiting stack n
waiting_more stack n b h =
    let same : n ≤ n = omega arith in
    rw (get_or-set_same, waiting-set stack n n b same) refl

-- ---- the first pair

pub record IsFirst (b : Bases) (ts us : List EventTree) : Type 0 where
  pub some : 0 < length ts
  pub some_other : 0 < length us
  pub fits : b.one + greatest (first ts) < 4294967296
  pub other_fits : b.other + greatest (first us) < 4294967296
  pub normal : IsNormal (first us)

first_of : (b : Bases) (bs : List Bases) (ts us : List EventTree) → ArePairs (b ∷ bs) ts us → IsFirst b ts us
first_of b bs [] us h = absurd h
first_of b bs (t ∷ ts) [] h = absurd h
first_of b bs (t ∷ ts) (u ∷ us) h = record { some = omega arith; some_other = omega arith; fits = h.0; other_fits = h.1; normal = h.2 }

pub first_pair : (b : Bases) (stack : List Bases) (n : ℕ) (ts us : List EventTree) (answer : Bool) (whole : ℕ) → IsLeft b stack n ts us answer whole → IsFirst b ts us
first_pair b stack n ts us answer whole h = first_of b (waiting stack n) ts us h.pairs

pub root_within : (t : EventTree) → root t ≤ greatest t
root_within (Leaf n) = omega arith
root_within (Node n a b) = omega arith

-- ---- how much is left

pub halved_smaller : (ts : List EventTree) → 1 < size (first ts) → sizes (halved ts) < sizes ts
halved_smaller [] big = absurd (omega (arith, big))
halved_smaller (Leaf n ∷ ts) big = absurd (omega (arith, big))
halved_smaller (Node n a b ∷ ts) big = omega arith

pub later_smaller : (ts : List EventTree) → 0 < length ts → sizes (later ts) < sizes ts
later_smaller [] some = absurd (omega (arith, some))
later_smaller (t ∷ ts) some = omega (arith, some_size t)

pub first_within : (ts : List EventTree) → 0 < length ts → size (first ts) ≤ sizes ts
first_within [] some = absurd (omega (arith, some))
first_within (t ∷ ts) some = omega arith

-- ---- the steps

and_true : (p : Bool) → p ≡ (p && true)
and_true true = refl
and_true false = refl

and_assoc : (p q r : Bool) → ((p && q) && r) ≡ (p && (q && r))
and_assoc true q r = refl
and_assoc false q r = refl

pub left_at_start : (x : ℕ) (t : EventTree) (y : ℕ) (u : EventTree) (stack : List Bases) → x + greatest t < 4294967296 → y + greatest u < 4294967296 → IsNormal u → length stack ≡ 16
    → IsLeft (bases_at x y) stack 0 (t ∷ []) (u ∷ []) (is_below_from x t y u) (size t)
left_at_start x t y u stack fits other_fits normal long = record { pairs = (fits, other_fits, normal, tt); same = and_true (is_below_from x t y u); long = long; room = omega arith; within = omega arith }

-- both halves in place of the first pair, above the greater bases
both_halves : (b : Bases) (bs : List Bases) (ts us : List EventTree) → ArePairs (b ∷ bs) ts us → 1 < size (first ts) → 1 < size (first us)
    → let c = bases_at (b.one + root (first ts)) (b.other + root (first us)) in
    ArePairs (c ∷ c ∷ bs) (halved ts) (halved us) × (are_below (b ∷ bs) ts us ≡ are_below (c ∷ c ∷ bs) (halved ts) (halved us))
both_halves b bs [] us h some other = absurd h
both_halves b bs (t ∷ ts) [] h some other = absurd h
both_halves b bs (Leaf m ∷ ts) (u ∷ us) h some other = absurd (omega (arith, some))
both_halves b bs (Node m p q ∷ ts) (Leaf n ∷ us) h some other = absurd (omega (arith, other))
both_halves b bs (Node m p q ∷ ts) (Node n r s ∷ us) h some other = (
  (omega (arith, h.0), omega (arith, h.1), h.2.0, (omega (arith, h.0), omega (arith, h.1), h.2.1, h.3)),
  and_assoc (is_below_from (b.one + m) p (b.other + n) r) (is_below_from (b.one + m) q (b.other + n) s) (are_below bs ts us),
)

pub left_open : (b : Bases) (stack : List Bases) (n v w : ℕ) (ts us ps qs : List EventTree) (answer : Bool) (whole : ℕ) → IsLeft b stack n ts us answer whole → 1 < size (first ts) → 1 < size (first us) → n < 16
    → v ≡ root (first ts) → w ≡ root (first us) → ps ≡ halved ts → qs ≡ halved us
    → IsLeft (bases_at (b.one + v) (b.other + w)) (set stack n (bases_at (b.one + v) (b.other + w))) (n + 1) ps qs answer whole
left_open b stack n v w ts us ps qs answer whole h some other low v_is w_is p q =
    let both = both_halves b (waiting stack n) ts us h.pairs some other in
    let c = bases_at (b.one + root (first ts)) (b.other + root (first us)) in
    let up : n + 1 ≡ suc n = omega arith in
    let there : c ∷ c ∷ waiting stack n ≡ c ∷ waiting (set stack n c) (n + 1) = ap (λ (bs : List Bases). c ∷ bs) (sym (waiting_more stack n c (omega (arith, h.long, low))) ∙ ap (waiting (set stack n c)) (sym up)) in
    rw (v_is, w_is, p, q) (record {
      pairs = subst (λ (bs : List Bases). ArePairs bs (halved ts) (halved us)) there both.0;
      same = h.same ∙ both.1 ∙ ap (λ (bs : List Bases). are_below bs (halved ts) (halved us)) there;
      long = length-set stack n c ∙ h.long;
      room = omega (arith, low);
      within = omega (arith, h.within, halved_smaller ts some);
    })

-- the first pair is passed over
passed : (b : Bases) (bs : List Bases) (ts us : List EventTree) → ArePairs (b ∷ bs) ts us → ArePairs bs (later ts) (later us)
passed b bs [] us h = absurd h
passed b bs (t ∷ ts) [] h = absurd h
passed b bs (t ∷ ts) (u ∷ us) h = h.3

pub left_behind : (b : Bases) (stack : List Bases) (n m : ℕ) (ts us ps qs : List EventTree) (answer : Bool) (whole : ℕ) → IsLeft b stack n ts us answer whole → is_below_from b.one (first ts) b.other (first us) ≡ true → n ≢ 0 → m ≡ n - 1 → ps ≡ later ts → qs ≡ later us
    → IsLeft (get_or stack m (bases_at 0 0)) stack m ps qs answer whole
left_behind b stack n m ts us ps qs answer whole h below some less p q =
    let up : n ≡ suc m = omega (arith, some, less) in
    let rest : are_below (b ∷ waiting stack n) ts us ≡ are_below (waiting stack n) (later ts) (later us) = rw below refl in
    rw (p, q) (record {
      pairs = subst (λ (k : ℕ). ArePairs (waiting stack k) (later ts) (later us)) up (passed b (waiting stack n) ts us h.pairs);
      same = h.same ∙ rest ∙ ap (λ (k : ℕ). are_below (waiting stack k) (later ts) (later us)) up;
      long = h.long;
      room = omega (arith, h.room, less);
      within = omega (arith, h.within, less, some, later_smaller ts (first_pair b stack n ts us answer whole h).some);
    })

pub none_left : (b : Bases) (stack : List Bases) (n : ℕ) (ts us : List EventTree) (answer : Bool) (whole : ℕ) → IsLeft b stack n ts us answer whole → is_below_from b.one (first ts) b.other (first us) ≡ true → n ≡ 0 → true ≡ answer
none_left b stack n ts us answer whole h below none = sym (h.same ∙ rw (below, none) refl)

pub not_left : (b : Bases) (stack : List Bases) (n : ℕ) (ts us : List EventTree) (answer : Bool) (whole : ℕ) → IsLeft b stack n ts us answer whole → is_below_from b.one (first ts) b.other (first us) ≡ false → false ≡ answer
not_left b stack n ts us answer whole h above = sym (h.same ∙ rw above refl)
