-- How the texts of trees are written, and how long they are.
use Rattle.std.proofs.Common.{◌≡◌, ℕ, ◌+◌, ◌*◌, ◌/◌, ◌%◌, ◌^◌, ◌<◌, ◌≤◌, zero, suc, List, [], ◌∷◌, ◌++◌, length, length-append, take, take_all, refl, ap, ◌∙◌, arith, append_assoc}
use Rattle.std.specs.List.{sum_by}
use Rattle.std.specs.Fmt.{decimal}
use Rattle.std.proofs.Math.Nat.{one-le-pow}
use Rattle.std.proofs.lemmas.Fmt.{decimal_digit, decimal_step}
use Rattle.std.proofs.lemmas.List.Sums.{sum_by-append, sum_by-cons}
use Rattle.event_tree.specs.EventTree.{EventTree, Leaf, Node}
use Rattle.event_tree.specs.Size.{size}
use Rattle.event_tree.specs.working.Entries.{entry, preorder}
use Rattle.event_tree.specs.Spelling.{spelling}
use Rattle.event_tree.specs.declared.layout.entries.Entry.{Entry}

-- ---- the digits of a number

-- two digits, also where the first is 0
abbrev pub pair : ℕ → List ℕ
pair n = (48 + n / 10) ∷ (48 + n % 10) ∷ []

pub decimal_pair : (n : ℕ) → 10 ≤ n → n < 100 → decimal n ≡ pair n
decimal_pair n low high = decimal_step n low (omega arith) ∙ rw (decimal_digit (n / 10) (omega arith)) refl

pub decimal_more : (n : ℕ) → 100 ≤ n → n < 2 ^ 64 → decimal n ≡ decimal (n / 100) ++ pair (n % 100)
decimal_more n low small =
    let front : n / 10 / 10 ≡ n / 100 = omega arith in
    let tens : n / 10 % 10 ≡ n % 100 / 10 = omega arith in
    let ones : n % 10 ≡ n % 100 % 10 = omega arith in
    let step : decimal (n / 10) ≡ decimal (n / 10 / 10) ++ (48 + n / 10 % 10) ∷ [] = decimal_step (n / 10) (omega arith) (omega arith) in
    decimal_step n (omega arith) small
    ∙ rw (step, front, tens, ones) (append_assoc (decimal (n / 100)) ((48 + n % 100 / 10) ∷ []) ((48 + n % 100 % 10) ∷ []))

pub written_behind : (out before : List ℕ) (n : ℕ) (after : List ℕ) → 100 ≤ n → n < 2 ^ 64
    → before ≡ out ++ decimal (n / 100) → after ≡ before ++ pair (n % 100) → after ≡ out ++ decimal n
written_behind out before n after low small e k =
    rw (decimal_more n low small) (k ∙ ap (λ (xs : List ℕ). xs ++ pair (n % 100)) e ∙ append_assoc out (decimal (n / 100)) (pair (n % 100)))

-- ---- how many they are

pub one_digit : (n : ℕ) → n < 10 → length (decimal n) ≡ 1
one_digit n h = ap length (decimal_digit n h)

pub one_digit_more : (n : ℕ) → 10 ≤ n → n < 2 ^ 64 → length (decimal n) ≡ length (decimal (n / 10)) + 1
one_digit_more n h small = ap length (decimal_step n h small) ∙ length-append (decimal (n / 10)) _

pub two_digits : (n : ℕ) → 10 ≤ n → n < 100 → length (decimal n) ≡ 2
two_digits n low high = ap length (decimal_pair n low high)

pub two_digits_more : (n : ℕ) → 100 ≤ n → n < 2 ^ 64 → length (decimal n) ≡ length (decimal (n / 100)) + 2
two_digits_more n h small = ap length (decimal_more n h small) ∙ length-append (decimal (n / 100)) _

pub digits_between : (k n : ℕ) → 10 ^ k ≤ n → n < 10 ^ suc k → n < 2 ^ 64 → length (decimal n) ≡ suc k
digits_between zero n low high small = one_digit n (omega arith)
digits_between (suc k) n low high small =
    let some : 1 ≤ 10 ^ k = one-le-pow k 10 (omega arith) in
    one_digit_more n (omega arith) small ∙ omega (arith, digits_between k (n / 10) (omega arith) (omega arith) (omega arith))

-- ---- how long a text is

pub node_length : (n : ℕ) (a b : EventTree) → length (spelling (Node n a b)) ≡ (length (decimal n) + 4) + (length (spelling a) + length (spelling b))
node_length n a b = simp length-append (omega arith)

-- the digits of an entry's value
abbrev pub digits_of : Entry → ℕ
digits_of e = length (decimal e.value)

-- beside them a node has two brackets and two commas, and there is a leaf more than nodes
pub sum_preorder : (t : EventTree) → sum_by digits_of (preorder t) + 2 * size t ≡ length (spelling t) + 2
sum_preorder (Leaf n) = omega arith
sum_preorder (Node n a b) =
    omega (
      arith,
      sum_by-cons digits_of (entry n (size a + size b + 1)) (preorder a ++ preorder b),
      sum_by-append digits_of (preorder a) (preorder b),
      sum_preorder a,
      sum_preorder b,
      node_length n a b,
    )

pub all_counted : (t : EventTree) (es : List Entry) (i n : ℕ) → es ≡ preorder t → length es ≤ i → n ≡ sum_by digits_of (take i es) → n + 2 * size t ≡ length (spelling t) + 2
all_counted t es i n e h is = ap (λ (m : ℕ). m + 2 * size t) (is ∙ ap (sum_by digits_of) (take_all i es h ∙ e)) ∙ sum_preorder t
