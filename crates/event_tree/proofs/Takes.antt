-- Trees that are read from the front of a text.
use Rattle.std.proofs.Common.{◌≡◌, ◌≢◌, ℕ, zero, suc, ◌+◌, ◌-◌, ◌*◌, ◌/◌, ◌%◌, ◌^◌, ◌<◌, ◌≤◌, min, true, false, List, [], ◌∷◌, ◌++◌, length, take, drop, get_or, length-append, length-set, refl, sym, ap, subst, eqb-true, inl, inr, ◌∙◌, arith, append_assoc, append-nil}
use Rattle.std.specs.Fmt.{decimal}
use Rattle.std.specs.Char.{is_ascii_digit}
use Rattle.std.specs.Prelude.{slice_set, Bool, ◌==◌, nat_le}
use Rattle.std.proofs.lemmas.Bool.{cases_Bool, both_ways, lt-leb}
use Rattle.std.proofs.lemmas.Bool.Decides.{nat_tests}
use Rattle.std.proofs.lemmas.List.{take_more_set, get_or-take, length-take-le, take_all, take-take}
use Rattle.std.proofs.Math.Seq.{take-set-lt, take-append_seam, drop-append_seam}
use Rattle.event_tree.specs.EventTree.{EventTree, Leaf, Node}
use Rattle.event_tree.specs.Halves.{root}
use Rattle.event_tree.specs.NormalForm.{IsNormal, IsEvents, depth, greatest, least, are_equal_leaves}
use Rattle.event_tree.specs.Size.{size}
use Rattle.event_tree.specs.Spelling.{IsNumeral, spelling}
use Rattle.event_tree.specs.working.Entries.{entry, blank, preorder, tree_of}
use Rattle.event_tree.specs.working.Taking.{is_leaf, are_halves, IsClosed, around_at, IsFirstRead, IsInnermost, AreOpen, IsUnread, IsTreeRead, IsBegun, IsLeafTaken, IsWhole, IsHalted, IsWidened}
use Rattle.event_tree.specs.declared.layout.entries.Entry.{Entry}
use Rattle.event_tree.specs.declared.reading.into_entries.Around.{Around}
use Rattle.event_tree.specs.declared.reading.into_entries.Halted.{Halted}
use Rattle.event_tree.proofs.Trees.{root_least}
use Rattle.event_tree.proofs.Preorder.{length_preorder, tree_of_preorder, is_preorder, some_size}
use Rattle.event_tree.proofs.Closed.{seen, HalvesAt, middle_within, one_seen, other_seen, written}
use Rattle.std.proofs.lemmas.Fmt.{decimal_digit}
use Rattle.event_tree.proofs.Numerals.{numeral_more, numeral_decimal, decimal_numeral}

pub taken_one : (text rest : List ℕ) (d : ℕ) → d < 10 → text ≡ (48 + d) ∷ rest → text ≡ decimal d ++ rest
taken_one text rest d small e = e ∙ ap (λ (ds : List ℕ). ds ++ rest) (sym (decimal_digit d small))

digit_range : (n : ℕ) → is_ascii_digit n ≡ true → (48 ≤ n) × (n ≤ 57)
digit_range n h = (grind (arith, nat_tests, h), grind (arith, nat_tests, h))

-- a digit that was seen by place
digit_seen : (n v : ℕ) → is_ascii_digit n ≡ true → v ≡ n - 48 → (n ∷ [] ≡ decimal v) × (v ≤ 9)
digit_seen n v digit is =
    let range = digit_range n digit in
    let back : 48 + v ≡ n = omega (arith, is, range) in
    (sym (decimal_digit v (omega (arith, is, range)) ∙ ap (λ (k : ℕ). k ∷ []) back), omega (arith, is, range))

pub base_seen : (text : List ℕ) (v : ℕ) → 3 ≤ length text → get_or text 0 0 ≡ 40 → get_or text 2 0 ≡ 44 → is_ascii_digit (get_or text 1 0) ≡ true → v ≡ get_or text 1 0 - 48
    → text ≡ 40 ∷ (decimal v ++ 44 ∷ take (length text - 3) (drop 3 text))
base_seen [] v long bracket comma digit is = absurd (omega (arith, long))
base_seen (x ∷ []) v long bracket comma digit is = absurd (omega (arith, long))
base_seen (x ∷ y ∷ []) v long bracket comma digit is = absurd (omega (arith, long))
base_seen (x ∷ y ∷ z ∷ rest) v long bracket comma digit is =
    let same : length (x ∷ y ∷ z ∷ rest) - 3 ≡ length rest = omega arith in
    rw (same, take_all (length rest) rest (omega arith), bracket, comma) (ap (λ (ds : List ℕ). 40 ∷ (ds ++ 44 ∷ rest)) (digit_seen y v digit is).0)

pub value_seen : (text : List ℕ) (v : ℕ) → 2 ≤ length text → is_ascii_digit (get_or text 0 0) ≡ true → v ≡ get_or text 0 0 - 48
    → (text ≡ decimal v ++ take (length text - 1) (drop 1 text)) × (v ≤ 4294967295)
value_seen [] v long digit is = absurd (omega (arith, long))
value_seen (x ∷ rest) v long digit is =
    let same : length (x ∷ rest) - 1 ≡ length rest = omega arith in
    let digits = digit_seen x v digit is in
    (rw (same, take_all (length rest) rest (omega arith)) (ap (λ (ds : List ℕ). ds ++ rest) digits.0), omega (arith, digits.1))

is_digit : (d : ℕ) → d < 10 → is_ascii_digit (48 + d) ≡ true
is_digit d small = grind (arith, nat_tests)

decimal_more : (n d m : ℕ) → 0 < n → n < 2 ^ 32 → d < 10 → m ≡ n * 10 + d → m < 2 ^ 32 → decimal n ++ (48 + d) ∷ [] ≡ decimal m
decimal_more n d m some fits digit is small =
    let value : n * 10 + ((48 + d) - 48) ≡ m = omega arith in
    decimal_numeral (decimal n ++ (48 + d) ∷ []) m
    (subst (λ (v : ℕ). IsNumeral (decimal n ++ (48 + d) ∷ []) v) value (numeral_more (decimal n) n (48 + d) (numeral_decimal n (omega arith)) some (is_digit d digit)))
    (omega arith)

-- a text with a digit more in its number
pub taken_more : (text rest later : List ℕ) (n d m : ℕ) → text ≡ decimal n ++ rest → rest ≡ (48 + d) ∷ later → 0 < n → n < 2 ^ 32 → d < 10 → m ≡ n * 10 + d → m < 2 ^ 32 → text ≡ decimal m ++ later
taken_more text rest later n d m e f some fits digit is small =
    e ∙ ap (λ (ds : List ℕ). decimal n ++ ds) f ∙ sym (append_assoc (decimal n) ((48 + d) ∷ []) later) ∙ ap (λ (ds : List ℕ). ds ++ later) (decimal_more n d m some fits digit is small)

-- an entry that is written leaves the room as it is
pub put_long : (room after : List Entry) (i : ℕ) (x : Entry) → after ≡ slice_set room i x → length after ≡ length room
put_long room after i x e = ap length e ∙ length-set room i x

-- ---- halves that make a node

zero_half : (m n : ℕ) (y z : Bool) → are_halves m y n z ≡ true → min m n ≡ 0
zero_half m n y z h = elim (cases_Bool (m == 0)) [
  | inl t ↦ omega (arith, eqb-true m 0 t)
  | inr f ↦ omega (arith, eqb-true n 0 (rw f at h))
]

leaves_apart : (m n : ℕ) → are_halves m true n true ≡ true → (m == n) ≡ false
leaves_apart m n h = elim (cases_Bool (m == n)) [
  | inr f ↦ f
  | inl t ↦
      let same : m ≡ n = eqb-true m n t in
      let none : m ≡ 0 = omega (arith, zero_half m n true true h, same) in
      let other : n ≡ 0 = omega (arith, none, same) in
      let never : are_halves m true n true ≡ false = rw (none, other) refl in
      absurd (both_ways (are_halves m true n true) never h)
]

unequal : (a b : EventTree) → are_halves (root a) (is_leaf a) (root b) (is_leaf b) ≡ true → are_equal_leaves a b ≡ false
unequal (Leaf m) (Leaf n) h = leaves_apart m n h
unequal (Leaf m) (Node n c d) h = refl
unequal (Node m c d) (Leaf n) h = refl
unequal (Node m c d) (Node n x y) h = refl

pub halves_normal : (a b : EventTree) → IsNormal a → IsNormal b → are_halves (root a) (is_leaf a) (root b) (is_leaf b) ≡ true → (min (least a) (least b) ≡ 0) × (are_equal_leaves a b ≡ false)
halves_normal a b na nb h = (omega (arith, zero_half (root a) (root b) (is_leaf a) (is_leaf b) h, root_least a na, root_least b nb), unequal a b h)

-- the entry in front of a tree shows whether it is a leaf
leaf_seen : (t : EventTree) → nat_le (size t) 1 ≡ is_leaf t
leaf_seen (Leaf n) = refl
leaf_seen (Node n a b) = lt-leb (size a + size b + 1) 1 (omega (arith, some_size a, some_size b))

halves_seen : (e f : Entry) (a b : EventTree) → e ≡ entry (root a) (size a) → f ≡ entry (root b) (size b) → are_halves e.value (nat_le e.size 1) f.value (nat_le f.size 1) ≡ true → are_halves (root a) (is_leaf a) (root b) (is_leaf b) ≡ true
halves_seen e f a b i j h = rw (i, j, leaf_seen a, leaf_seen b) at h

-- ---- the nodes that are open

some_bit : (d halves last sum : ℕ) (text : List ℕ) (es : List Entry) → AreOpen d halves last sum text es → 2 ≤ halves
some_bit zero halves last sum text es h = omega (arith, h.3)
some_bit (suc d) halves last sum text es h = omega (arith, some_bit d (halves / 2) h.3 h.2 h.0 h.1 h.5)

-- the number 2 with so many binary digits behind
abbrev twice : ℕ → ℕ
twice zero = 2
twice (suc k) = 2 * twice k

levels_below : (k d halves last sum : ℕ) (text : List ℕ) (es : List Entry) → AreOpen d halves last sum text es → halves < twice k → d < k
levels_below zero d halves last sum text es h low = absurd (omega (arith, low, some_bit d halves last sum text es h))
levels_below (suc k) zero halves last sum text es h low = omega arith
levels_below (suc k) (suc d) halves last sum text es h low =
    let half : halves / 2 < twice k = omega (arith, low) in
    omega (arith, levels_below k d (halves / 2) h.3 h.2 h.0 h.1 h.5 half)

-- ---- a tree begins

front_of_node : (so_far rest : List ℕ) (base : ℕ) → so_far ++ 40 ∷ (decimal base ++ 44 ∷ rest) ≡ (so_far ++ 40 ∷ (decimal base ++ 44 ∷ [])) ++ rest
front_of_node so_far rest base = sym (simp append_assoc)

begun : (d halves last sum base end : ℕ) (text : List ℕ) (es : List Entry) → length es ≡ end → AreOpen d halves last sum text es
    → AreOpen (suc d) (halves * 2) end (sum + base) (text ++ 40 ∷ (decimal base ++ 44 ∷ [])) (es ++ entry base last ∷ [])
begun d halves last sum base end text es long h =
    let back : halves ≡ halves * 2 / 2 = omega arith in (
      text,
      es,
      sum,
      last,
      record {
        base = base;
        said = [];
        half = [];
        spelled = refl;
        are = refl;
        last_is = long;
        sum_is = refl;
        unread = λ even. (refl, refl);
        first_read = λ odd. absurd (omega (arith, odd));
      },
      subst (λ (n : ℕ). AreOpen d n last sum text es) back h,
    )

pub node_begun : (whole text rest : List ℕ) (around inner : Around) (room after : List Entry) (end : ℕ) → IsUnread whole text around room end → IsBegun text rest around inner room after end → end < length room
    → IsUnread whole rest inner after (end + 1)
node_begun whole text rest around inner room after end h b free = record {
  levels = suc h.levels;
  so_far = h.so_far ++ 40 ∷ (decimal b.base ++ 44 ∷ []);
  spelled = h.spelled ∙ ap (λ (ds : List ℕ). h.so_far ++ ds) b.spelled ∙ front_of_node h.so_far rest b.base;
  open_there = rw (b.inner_is, b.put, take_more_set room end (entry b.base around.last) free) (begun h.levels around.halves around.last around.sum b.base end h.so_far (take end room) (length-take-le end room h.within) h.open_there);
  low = omega (arith, levels_below 40 h.levels around.halves around.last around.sum h.so_far (take end room) h.open_there b.free);
  within = omega (arith, ap length b.put, length-set room end (entry b.base around.last), free);
  fits = omega (arith, ap length b.put, length-set room end (entry b.base around.last), h.fits);
}

-- ---- a leaf

pub leaf_read : (whole text rest : List ℕ) (around : Around) (room after : List Entry) (end : ℕ) → IsUnread whole text around room end → IsLeafTaken text rest around.sum room after end → end < length room
    → IsTreeRead whole rest around after (end + 1)
leaf_read whole text rest around room after end h l free = record {
  levels = h.levels;
  tree = Leaf l.root;
  so_far = h.so_far;
  front = take end room;
  spelled = h.spelled ∙ ap (λ (ds : List ℕ). h.so_far ++ ds) l.spelled;
  are = ap (take (end + 1)) l.put ∙ take_more_set room end (entry l.root 1) free;
  open_there = h.open_there;
  normal = tt;
  shallow = omega (arith, h.low);
  small = omega (arith, l.small);
  within = omega (arith, ap length l.put, length-set room end (entry l.root 1), free);
  fits = omega (arith, ap length l.put, length-set room end (entry l.root 1), h.fits);
}

-- ---- a second half

turned : (d halves last sum : ℕ) (text : List ℕ) (es : List Entry) (t : EventTree) → halves % 2 ≡ 0 → halves ≢ 2 → AreOpen d halves last sum text es → IsNormal t → depth t + d ≤ 40 → sum + greatest t ≤ 4294967295
    → AreOpen d (halves + 1) last sum (text ++ (spelling t ++ 44 ∷ [])) (es ++ preorder t)
turned zero halves last sum text es t even more h normal shallow small = absurd (more h.3)
turned (suc d) halves last sum text es t even more h normal shallow small =
    let i = h.4 in
    let empty = i.unread even in
    let same : halves / 2 ≡ (halves + 1) / 2 = omega (arith, even) in (
      h.0,
      h.1,
      h.2,
      h.3,
      record {
        base = i.base;
        said = spelling t ++ 44 ∷ [];
        half = preorder t;
        spelled = rw (i.spelled, empty.0) (simp append_assoc);
        are = rw (i.are, empty.1) (append_assoc h.1 (entry i.base h.3 ∷ []) (preorder t));
        last_is = i.last_is;
        sum_is = i.sum_is;
        unread = λ e. absurd (omega (arith, e, even));
        first_read = λ odd. record { left = t; spelled = refl; are = refl; normal = normal; shallow = omega (arith, shallow); small = small };
      },
      subst (λ (n : ℕ). AreOpen d n h.3 h.2 h.0 h.1) same h.5,
    )

pub half_begun : (whole text rest : List ℕ) (around : Around) (room : List Entry) (end : ℕ) → IsTreeRead whole text around room end → around.halves % 2 ≡ 0 → around.halves ≢ 2 → text ≡ 44 ∷ rest
    → IsUnread whole rest (around_at (around.halves + 1) around.last around.sum) room end
half_begun whole text rest around room end h even more comma = record {
  levels = h.levels;
  so_far = h.so_far ++ (spelling h.tree ++ 44 ∷ []);
  spelled = h.spelled ∙ rw comma (sym (simp append_assoc));
  open_there = rw h.are (turned h.levels around.halves around.last around.sum h.so_far h.front h.tree even more h.open_there h.normal h.shallow h.small);
  low = omega (arith, h.shallow);
  within = h.within;
  fits = h.fits;
}

-- ---- a node ends

-- the innermost node, of two halves
pub record IsEnded (d halves last sum : ℕ) (text : List ℕ) (es all : List Entry) (t : EventTree) : Type 0 where
  pub before : List ℕ
  pub front : List Entry
  pub above : ℕ
  pub link : ℕ
  pub innermost : IsInnermost d halves last link sum text before es front above
  pub half : IsFirstRead d sum innermost.said innermost.half
  pub halves_there : HalvesAt all front (entry innermost.base link) half.left t last (last + 1 + size half.left)
  pub outside : AreOpen d (halves / 2) link above before front

ended : (d halves last sum : ℕ) (text : List ℕ) (es all : List Entry) (t : EventTree) → halves % 2 ≡ 1 → AreOpen (suc d) halves last sum text es → all ≡ es ++ preorder t → IsEnded d halves last sum text es all t
ended d halves last sum text es all t odd h are =
    let i = h.4 in
    let f = i.first_read odd in
    record {
      before = h.0;
      front = h.1;
      above = h.2;
      link = h.3;
      innermost = i;
      half = f;
      halves_there = record { begins = i.last_is; halved = refl; are = are ∙ rw (i.are, f.are) (append_assoc h.1 (entry i.base h.3 ∷ preorder f.left) (preorder t)) };
      outside = h.5;
    }

-- what an odd number of halves tells of a tree that was read
pub record IsLastRead (whole text : List ℕ) (around : Around) (room : List Entry) (end : ℕ) : Type 0 where
  pub d : ℕ
  pub tree : EventTree
  pub so_far : List ℕ
  pub front : List Entry
  pub spelled : whole ≡ so_far ++ (spelling tree ++ text)
  pub node : IsEnded d around.halves around.last around.sum so_far front (take end room) tree
  pub normal : IsNormal tree
  pub shallow : depth tree + d + 1 ≤ 40
  pub small : around.sum + greatest tree ≤ 4294967295
  pub within : end ≤ length room
  pub fits : length room < 4294967296

last_read_at : (whole text : List ℕ) (around : Around) (room : List Entry) (end levels : ℕ) (t : EventTree) (so_far : List ℕ) (front : List Entry) → whole ≡ so_far ++ (spelling t ++ text) → take end room ≡ front ++ preorder t
    → AreOpen levels around.halves around.last around.sum so_far front → IsNormal t → depth t + levels ≤ 40 → around.sum + greatest t ≤ 4294967295 → end ≤ length room → length room < 4294967296 → around.halves % 2 ≡ 1
    → IsLastRead whole text around room end
last_read_at whole text around room end zero t so_far front spelled are there normal shallow small within fits odd = absurd (omega (arith, there.3, odd))
last_read_at whole text around room end (suc d) t so_far front spelled are there normal shallow small within fits odd = record {
  d = d;
  tree = t;
  so_far = so_far;
  front = front;
  spelled = spelled;
  node = ended d around.halves around.last around.sum so_far front (take end room) t odd there are;
  normal = normal;
  shallow = omega (arith, shallow);
  small = small;
  within = within;
  fits = fits;
}

last_read : (whole text : List ℕ) (around : Around) (room : List Entry) (end : ℕ) → IsTreeRead whole text around room end → around.halves % 2 ≡ 1 → IsLastRead whole text around room end
last_read whole text around room end h odd = last_read_at whole text around room end h.levels h.tree h.so_far h.front h.spelled h.are h.open_there h.normal h.shallow h.small h.within h.fits odd

-- what closing it reads and writes is there, and its base is within the sum
pub record CanClose (around : Around) (room : List Entry) (end : ℕ) : Type 0 where
  pub one : around.last + 1 < length room
  pub other : around.last + 1 + (get_or room (around.last + 1) blank).size < length room
  pub size : around.last ≤ end
  pub base : (get_or room around.last blank).value ≤ around.sum

mark_seen : (whole text : List ℕ) (around : Around) (room : List Entry) (end : ℕ) → (h : IsLastRead whole text around room end) → get_or room around.last blank ≡ entry h.node.innermost.base h.node.link
mark_seen whole text around room end h =
    let w = middle_within _ _ _ _ _ _ _ h.node.halves_there in
    let long = length-take-le end room h.within in
    sym (get_or-take end room around.last blank (omega (arith, w.2, long))) ∙ seen h.node.front _ (take end room) _ around.last h.node.halves_there.begins h.node.halves_there.are

left_seen : (whole text : List ℕ) (around : Around) (room : List Entry) (end : ℕ) → (h : IsLastRead whole text around room end) → get_or room (around.last + 1) blank ≡ entry (root h.node.half.left) (size h.node.half.left)
left_seen whole text around room end h =
    let w = middle_within _ _ _ _ _ _ _ h.node.halves_there in
    let long = length-take-le end room h.within in
    sym (get_or-take end room (around.last + 1) blank (omega (arith, w.0, long))) ∙ one_seen _ _ _ _ _ _ _ h.node.halves_there

right_seen : (whole text : List ℕ) (around : Around) (room : List Entry) (end : ℕ) → (h : IsLastRead whole text around room end) → get_or room (around.last + 1 + size h.node.half.left) blank ≡ entry (root h.tree) (size h.tree)
right_seen whole text around room end h =
    let w = middle_within _ _ _ _ _ _ _ h.node.halves_there in
    let long = length-take-le end room h.within in
    sym (get_or-take end room (around.last + 1 + size h.node.half.left) blank (omega (arith, w.1, long))) ∙ other_seen _ _ _ _ _ _ _ h.node.halves_there

pub can_close : (whole text : List ℕ) (around : Around) (room : List Entry) (end : ℕ) → IsTreeRead whole text around room end → around.halves % 2 ≡ 1 → CanClose around room end
can_close whole text around room end read odd =
    let h = last_read whole text around room end read odd in
    let w = middle_within _ _ _ _ _ _ _ h.node.halves_there in
    let long = length-take-le end room h.within in
    let left_size : (get_or room (around.last + 1) blank).size ≡ size h.node.half.left = ap (λ (x : Entry). x.size) (left_seen whole text around room end h) in
    let base_is : (get_or room around.last blank).value ≡ h.node.innermost.base = ap (λ (x : Entry). x.value) (mark_seen whole text around room end h) in
    record {
      one = omega (arith, w.0, long, h.within);
      other = omega (arith, w.1, long, h.within, left_size);
      size = omega (arith, w.2, long);
      base = omega (arith, base_is, h.node.innermost.sum_is);
    }

spelled_node : (whole so_far before text said rest : List ℕ) (n : ℕ) (a b : EventTree) → whole ≡ so_far ++ (spelling b ++ text) → so_far ≡ before ++ 40 ∷ (decimal n ++ 44 ∷ said) → said ≡ spelling a ++ 44 ∷ [] → text ≡ 41 ∷ rest
    → whole ≡ before ++ (spelling (Node n a b) ++ rest)
spelled_node whole so_far before text said rest n a b e f g h = rw (e, f, g, h) (simp append_assoc)

pub node_closed : (whole text rest : List ℕ) (around : Around) (mark : Entry) (room after : List Entry) (end : ℕ) → IsTreeRead whole text around room end → around.halves % 2 ≡ 1 → text ≡ 41 ∷ rest → IsClosed around.last end mark room after
    → IsTreeRead whole rest (around_at (around.halves / 2) mark.size (around.sum - mark.value)) after end
node_closed whole text rest around mark room after end read odd bracket c =
    let h = last_read whole text around room end read odd in
    let i = h.node.innermost in
    let a = h.node.half.left in
    let b = h.tree in
    let n = i.base in
    let w = middle_within _ _ _ _ _ _ _ h.node.halves_there in
    let long = length-take-le end room h.within in
    let left_at = left_seen whole text around room end h in
    let left_size : (get_or room (around.last + 1) blank).size ≡ size a = ap (λ (x : Entry). x.size) left_at in
    let right_at = ap (λ (k : ℕ). get_or room (around.last + 1 + k) blank) left_size ∙ right_seen whole text around room end h in
    let fit = halves_normal a b h.node.half.normal h.normal (halves_seen _ _ a b left_at right_at c.halves) in
    let mark_at : mark ≡ entry n h.node.link = c.mark_is ∙ mark_seen whole text around room end h in
    let value_is : mark.value ≡ n = ap (λ (x : Entry). x.value) mark_at in
    let link_is : mark.size ≡ h.node.link = ap (λ (x : Entry). x.size) mark_at in
    let sum_back : around.sum - mark.value ≡ h.node.above = omega (arith, value_is, i.sum_is) in
    let size_is : end - around.last ≡ size a + size b + 1 =
    omega (arith, sym long, ap length h.node.halves_there.are, length-append h.node.front (entry n h.node.link ∷ (preorder a ++ preorder b)), length-append (preorder a) (preorder b), length_preorder a, length_preorder b, h.node.halves_there.begins) in
    let x = entry mark.value (end - around.last) in
    let x_is : x ≡ entry n (size a + size b + 1) = rw (value_is, size_is) refl in
    record {
      levels = h.d;
      tree = Node n a b;
      so_far = h.node.before;
      front = h.node.front;
      spelled = spelled_node whole h.so_far h.node.before text i.said rest n a b h.spelled i.spelled h.node.half.spelled bracket;
      are =
          ap (take end) c.sealed ∙ take-set-lt end room around.last x (omega (arith, w.2, long)) ∙ written h.node.front _ (take end room) _ x around.last h.node.halves_there.begins h.node.halves_there.are
          ∙ ap (λ (y : Entry). h.node.front ++ y ∷ (preorder a ++ preorder b)) x_is;
      open_there = rw (link_is, sum_back) h.node.outside;
      normal = (h.node.half.normal, h.normal, fit.0, fit.1);
      shallow = omega (arith, h.node.half.shallow, h.shallow);
      small = omega (arith, h.node.half.small, h.small, i.sum_is, sum_back);
      within = omega (arith, ap length c.sealed, length-set room around.last x, h.within);
      fits = omega (arith, ap length c.sealed, length-set room around.last x, h.fits);
    }

-- ---- the whole text

no_length : {A : Type 0} (xs : List A) → length xs ≡ 0 → xs ≡ []
no_length [] e = refl
no_length (x ∷ xs) e = absurd (omega (arith, e))

none_open : (d halves last sum : ℕ) (text : List ℕ) (es : List Entry) → AreOpen d halves last sum text es → halves ≡ 2 → (text ≡ []) × (es ≡ [])
none_open zero halves last sum text es h none = (h.0, h.1)
none_open (suc d) halves last sum text es h none = absurd (omega (arith, none, some_bit d (halves / 2) h.3 h.2 h.0 h.1 h.5))

whole_tree : (text : List ℕ) (room : List Entry) (t : EventTree) → text ≡ spelling t → room ≡ preorder t → IsNormal t → depth t ≤ 40 → greatest t ≤ 4294967295 → IsWhole text room
whole_tree text room t spelled are normal shallow small =
    let is : tree_of room ≡ t = tree_of_preorder room t are in
    let events : IsEvents t = record { normal = normal; shallow = shallow; small = small } in
    record { events = rw is events; are = is_preorder room t are; spelled = rw is spelled }

pub whole : (text rest : List ℕ) (around : Around) (room : List Entry) (end : ℕ) → IsTreeRead text rest around room end → around.halves ≡ 2 → length rest ≡ 0 → IsWhole text (take end room)
whole text rest around room end h none ends =
    let outside = none_open h.levels around.halves around.last around.sum h.so_far h.front h.open_there none in
    whole_tree text (take end room) h.tree
    (h.spelled ∙ rw (outside.0, no_length rest ends) (append-nil (spelling h.tree)))
    (h.are ∙ rw outside.1 refl)
    h.normal
    (omega (arith, h.shallow))
    (omega (arith, h.small))

-- ---- where a reading halts

-- before the first byte
pub unbegun : (text : List ℕ) (room : List Entry) → length room < 4294967296 → IsHalted text (record { at = 0; end = 0; around = around_at 2 0 0 }) room
unbegun text room fits = record { place = omega arith; unread = record { levels = 0; so_far = []; spelled = refl; open_there = (refl, refl, refl, refl); low = omega arith; within = omega arith; fits = fits } }

-- at a tree that is to be read
pub halts : (text rest : List ℕ) (around : Around) (room : List Entry) (end : ℕ) → IsUnread text rest around room end → IsHalted text (record { at = length text - length rest; end = end; around = around }) room
halts text rest around room end h =
    let place : length text - length rest ≡ length h.so_far = omega (arith, ap length h.spelled, length-append h.so_far rest) in
    let left : drop (length text - length rest) text ≡ rest = rw place (ap (drop (length h.so_far)) h.spelled ∙ drop-append_seam h.so_far rest) in
    record { place = omega arith; unread = rw left h }

pub halted_wider : (text : List ℕ) (halted : Halted) (before room : List Entry) → IsHalted text halted before → IsWidened before room → IsHalted text halted room
halted_wider text halted before room h wider =
    let u = h.unread in
    let front : take halted.end room ≡ take halted.end before =
    sym (take-take halted.end (length before) room u.within) ∙ ap (take halted.end) wider.front in
    record {
      place = h.place;
      unread = record {
        levels = u.levels;
        so_far = u.so_far;
        spelled = u.spelled;
        open_there = rw front u.open_there;
        low = u.low;
        within = omega (arith, u.within, wider.longer);
        fits = wider.fits;
      };
    }

-- a list that is longer by blank entries
pub widened : (before room blanks : List Entry) (count : ℕ) → room ≡ before ++ blanks → length blanks ≡ count - length before → length before < count → count < 4294967296 → IsWidened before room
widened before room blanks count is long more fits =
    let whole : length room ≡ count = omega (arith, ap length is, length-append before blanks, long, more) in
    record {
      front = ap (take (length before)) is ∙ take-append_seam before blanks;
      longer = omega (arith, whole, more);
      fits = omega (arith, whole, fits);
    }
