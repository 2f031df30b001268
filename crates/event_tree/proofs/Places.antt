-- Trees that are written into a list of entries, in place of those that stood there.
use Rattle.std.proofs.Common.{◌≡◌, ◌≢◌, ℕ, ◌+◌, ◌-◌, ◌≤◌, ◌<◌, min, max, List, [], ◌∷◌, ◌++◌, length, take, drop, get_or, set, refl, sym, ap, ◌∙◌, arith, append_assoc, length-append, length-set, take-take}
use Rattle.std.proofs.lemmas.List.{take_more, take_more_set, get_or-take, length-take-le, take_all, take_at}
use Rattle.std.specs.List.{refill}
use Rattle.std.specs.Prelude.{Result, Ok, Err, IfOk}
use Rattle.std.proofs.lemmas.Grind.{take-set_at}
use Rattle.std.proofs.Math.Seq.{take-set-lt, take-append_seam}
use Rattle.id_tree.specs.IdTree.{IdTree, One}
use Rattle.event_tree.specs.EventTree.{EventTree, Leaf, Node}
use Rattle.event_tree.specs.Halves.{root}
use Rattle.event_tree.specs.Norm.{lifted, normal_node}
use Rattle.event_tree.specs.Size.{size}
use Rattle.event_tree.specs.working.Entries.{entry, blank, preorder, EndsInHalves}
use Rattle.event_tree.specs.working.Writing.{HasTreeWritten}
use Rattle.event_tree.specs.working.Walks.{AreFilled}
use Rattle.event_tree.specs.declared.layout.entries.Entry.{Entry}
use Rattle.event_tree.proofs.Preorder.{below, preorder_root, preorder_lifted, length_preorder, some_size}
use Rattle.event_tree.proofs.Closed.{HalvesAt, Read, AreLeaves, AreRaised, raises_left, raises_right, middle_within, halves_here, closes, node_closed, pushed_leaves, written}

pub leaf_written : (old new : List Entry) (start stop n : ℕ) → start < length old → new ≡ set old start (entry n 1) → stop ≡ start + 1 → HasTreeWritten old new start stop (Leaf n)
leaf_written old new start stop n lt is next =
    rw (is, next) (record { as_long = length-set old start (entry n 1); within = omega (arith, lt); are = take_more_set old start (entry n 1) lt })

pub leaves_written : (old one two new : List Entry) (start m n k : ℕ) → start + 2 < length old → m ≢ n → k ≡ min m n
    → one ≡ set old start (entry k 3) → two ≡ set one (start + 1) (entry (m - k) 1) → new ≡ set two (start + 2) (entry (n - k) 1) → HasTreeWritten old new start (start + 3) (normal_node 0 (Leaf m) (Leaf n))
leaves_written old one two new start m n k lt unlike is a b c =
    let first_long : length one ≡ length old = ap length a ∙ length-set old start (entry k 3) in
    let second_long : length two ≡ length old = ap length b ∙ length-set one (start + 1) (entry (m - k) 1) ∙ first_long in
    record {
      as_long = ap length c ∙ length-set two (start + 2) (entry (n - k) 1) ∙ second_long;
      within = omega (arith, lt);
      are =
          pushed_leaves (take start old) (take (start + 1) one) (take (start + 2) two) (take (start + 3) new) m n k unlike is
          (ap (take (start + 1)) a ∙ take-set_at old start (start + 1) (entry k 3) refl (omega (arith, lt)))
          (ap (take (start + 2)) b ∙ take-set_at one (start + 1) (start + 2) (entry (m - k) 1) (omega arith) (omega (arith, lt, first_long)))
          (ap (take (start + 3)) c ∙ take-set_at two (start + 2) (start + 3) (entry (n - k) 1) (omega arith) (omega (arith, lt, second_long)));
    }

-- a copy of the entries of which the first is written over
pub lifted_written : (old copied new : List Entry) (start stop k : ℕ) (e : EventTree) → start + size e ≤ length old → stop ≡ start + size e → length copied ≡ length old
    → take (start + size e) copied ≡ take start old ++ preorder e → new ≡ set copied start (entry (root e + k) (size e)) → HasTreeWritten old new start stop (lifted k e)
lifted_written old copied new start stop k e room next long is put =
    rw next
    (record {
      as_long = ap length put ∙ length-set copied start (entry (root e + k) (size e)) ∙ long;
      within = room;
      are =
          ap (take (start + size e)) put
          ∙ take-set-lt (start + size e) copied start (entry (root e + k) (size e)) (omega (arith, some_size e))
          ∙ written (take start old) (below e) (take (start + size e) copied) (entry (root e) (size e)) (entry (root e + k) (size e)) start
          (length-take-le start old (omega (arith, room)))
          (is ∙ ap (λ (es : List Entry). take start old ++ es) (preorder_root e))
          ∙ ap (λ (es : List Entry). take start old ++ es) (sym (preorder_lifted k e));
    })

first_alone : (e : EventTree) → get_or (preorder e) 0 blank ≡ entry (root e) (size e)
first_alone (Leaf n) = refl
first_alone (Node n a b) = refl

-- what is put into a list stands there, behind what stays in front
put_there : (old copied front : List Entry) (start : ℕ) → start + length front ≤ length old → copied ≡ take start old ++ (front ++ drop (start + length front) old) → take (start + length front) copied ≡ take start old ++ front
put_there old copied front start room is =
    let before = take start old ++ front in
    let rest = drop (start + length front) old in
    let long : start + length front ≡ length before = omega (arith, length-append (take start old) front, length-take-le start old (omega (arith, room))) in
    rw (long, is ∙ sym (append_assoc (take start old) front rest)) (take-append_seam before rest)

pub part_lifted : (old copied entries front : List Entry) (start k : ℕ) (e : EventTree) → entries ≡ preorder e → start + size e ≤ length old → front ≡ take (get_or entries 0 blank).size entries → length copied ≡ length old
    → copied ≡ take start old ++ (front ++ drop (start + length front) old)
    → HasTreeWritten old (set copied start (entry ((get_or entries 0 blank).value + k) (get_or entries 0 blank).size)) start (start + (get_or entries 0 blank).size) (lifted k e)
part_lifted old copied entries front start k e are room parts long is =
    let first : get_or entries 0 blank ≡ entry (root e) (size e) = ap (λ (es : List Entry). get_or es 0 blank) are ∙ first_alone e in
    let whole : front ≡ preorder e = parts ∙ ap (λ (x : Entry). take x.size entries) first ∙ ap (take (size e)) are ∙ take_all (size e) (preorder e) (omega (arith, length_preorder e)) in
    let front_long : size e ≡ length front = sym (ap length whole ∙ length_preorder e) in
    rw first
    (lifted_written old copied _ start _ k e room refl long (ap (λ (n : ℕ). take (start + n) copied) front_long ∙ put_there old copied front start (omega (arith, room, front_long)) is ∙ ap (λ (es : List Entry). take start old ++ es) whole) refl)

-- ---- two halves

length_of_written : (old new : List Entry) (start stop : ℕ) (t : EventTree) → start ≤ length old → HasTreeWritten old new start stop t → stop ≡ start + size t
length_of_written old new start stop t le w =
    omega (arith, sym (length-take-le stop new (omega (arith, w.within, w.as_long))) ∙ ap length w.are, length-append (take start old) (preorder t), length-take-le start old le, length_preorder t)

pub written_both : (old one both : List Entry) (start middle stop : ℕ) (a b : EventTree) → start < length old → HasTreeWritten old one (start + 1) middle a → HasTreeWritten one both middle stop b
    → HalvesAt (take stop both) (take start old) (get_or old start blank) a b start middle
written_both old one both start middle stop a b lt w v = record {
  begins = length-take-le start old (omega (arith, lt));
  halved = length_of_written old one (start + 1) middle a (omega (arith, lt)) w;
  are =
      v.are
      ∙ ap (λ (es : List Entry). es ++ preorder b) (w.are ∙ ap (λ (es : List Entry). es ++ preorder a) (take_more old start blank lt))
      ∙ append_assoc (take start old ++ get_or old start blank ∷ []) (preorder a) (preorder b)
      ∙ append_assoc (take start old) (get_or old start blank ∷ []) (preorder a ++ preorder b);
}

-- what is read of both halves
pub read_within : (out : List Entry) (start middle stop n : ℕ) (left right : Entry) → EndsInHalves (take stop out) start middle n → stop ≤ length out
    → left ≡ get_or out (start + 1) blank → right ≡ get_or out middle blank → Read (take stop out) start middle left right
read_within out start middle stop n left right w within l r =
    let places = middle_within _ _ _ _ _ _ _ (halves_here _ _ _ _ w) in
    let long = length-take-le stop out within in
    record {
      one_read = l ∙ sym (get_or-take stop out (start + 1) blank (omega (arith, places, long)));
      other_read = r ∙ sym (get_or-take stop out middle blank (omega (arith, places, long)));
    }

-- where the halves end
pub places_within : (out : List Entry) (start middle stop n : ℕ) → EndsInHalves (take stop out) start middle n → stop ≤ length out → (start + 1 < stop) × (middle < stop) × (start < stop)
places_within out start middle stop n w within =
    let places = middle_within _ _ _ _ _ _ _ (halves_here _ _ _ _ w) in
    let long = length-take-le stop out within in
    omega (arith, places, long)

-- what holds where a node was closed
abbrev pub EndsInNode : List Entry → List Entry → EventTree → ℕ → ℕ → Type 0
EndsInNode new front t end stop = (end ≤ stop) × (take end new ≡ front ++ preorder t)

-- two equal leaves
pub leaf_closed : (out new front : List Entry) (e one other : Entry) (a b : EventTree) (n start middle stop end : ℕ) → HalvesAt (take stop out) front e a b start middle → Read (take stop out) start middle one other → AreLeaves one other
    → start < stop → end ≡ start + 1 → HasTreeWritten out new start end (Leaf (n + one.value)) → EndsInNode new front (normal_node n a b) end stop
leaf_closed out new front e one other a b n start middle stop end h r leaves lt next w =
    (omega (arith, lt, next), closes (take stop out) (take end new) front e one other a b n start middle h r leaves (w.are ∙ ap (λ (es : List Entry). es ++ preorder (Leaf (n + one.value))) (sym (take-take start stop out (omega (arith, lt))))))

-- and a node
pub put_closed : (out new front : List Entry) (e one other : Entry) (a b : EventTree) (n k size_here start middle stop : ℕ) → HalvesAt (take stop out) front e a b start middle → Read (take stop out) start middle one other → ¬ AreLeaves one other
    → k ≡ min one.value other.value → stop ≤ length out → start + 1 < stop → middle < stop → size_here ≡ stop - start
    → new ≡ set (set (set out (start + 1) (entry (one.value - k) one.size)) middle (entry (other.value - k) other.size)) start (entry (n + k) size_here)
    → EndsInNode new front (normal_node n a b) stop stop
put_closed out new front e one other a b n k size_here start middle stop h r unlike is within one_lt other_lt whole put =
    let x = entry (one.value - k) one.size in
    let y = entry (other.value - k) other.size in (
      omega arith,
      node_closed (take stop out) (take stop new) front e one other a b n k size_here start middle h r unlike is
          (omega (arith, whole, length-take-le stop out within))
          (ap (take stop) put
          ∙ take-set-lt stop (set (set out (start + 1) x) middle y) start (entry (n + k) size_here) (omega (arith, one_lt))
          ∙ ap (λ (es : List Entry). set es start (entry (n + k) size_here))
          (take-set-lt stop (set out (start + 1) x) middle y other_lt ∙ ap (λ (es : List Entry). set es middle y) (take-set-lt stop out (start + 1) x one_lt))),
    )

pub halves_within : (old one both : List Entry) (start middle stop : ℕ) (a b : EventTree) → start < length old → HasTreeWritten old one (start + 1) middle a → HasTreeWritten one both middle stop b
    → (start + 1 < middle) × (middle < stop) × (stop ≤ length both)
halves_within old one both start middle stop a b lt w v =
    let h = written_both old one both start middle stop a b lt w v in
    let within : stop ≤ length both = omega (arith, v.within, v.as_long) in
    let places = middle_within _ _ _ _ _ _ _ h in
    let long = length-take-le stop both within in
    (omega (arith, h.halved, some_size a), omega (arith, places, long), within)

-- ---- a half that is raised

raised_read : (out front : List Entry) (e one other : Entry) (a b : EventTree) (start middle stop : ℕ) → start + 1 < middle → middle < stop → stop ≤ length out
    → one ≡ get_or out (start + 1) blank → other ≡ get_or out middle blank → Read (take stop out) start middle one other
raised_read out front e one other a b start middle stop begins inside within x y = record {
  one_read = x ∙ sym (get_or-take stop out (start + 1) blank (omega (arith, begins, inside, within, length-take-le stop out within)));
  other_read = y ∙ sym (get_or-take stop out middle blank (omega (arith, begins, inside, within, length-take-le stop out within)));
}

pub raised_at_left : (out new front : List Entry) (e one other : Entry) (l r : IdTree) (a b : EventTree) (start middle stop value : ℕ) → start + 1 < middle → middle < stop → stop ≤ length out
    → HalvesAt (take stop out) front e a b start middle → one ≡ get_or out (start + 1) blank → other ≡ get_or out middle blank → AreFilled l r a b
    → l ≡ One → value ≡ max one.value other.value → new ≡ set out (start + 1) (entry value 1) → AreRaised (take stop new) front e l r a b
raised_at_left out new front e one other l r a b start middle stop value begins inside within h x y f owned v is =
    raises_left (take stop out) (take stop new) front e one other l r a b start middle value h
    (raised_read out front e one other a b start middle stop begins inside within x y)
    f owned v (ap (take stop) is ∙ take-set-lt stop out (start + 1) (entry value 1) (omega (arith, begins, inside)))

pub raised_at_right : (out new front : List Entry) (e one other : Entry) (l r : IdTree) (a b : EventTree) (start middle stop value : ℕ) → start + 1 < middle → middle < stop → stop ≤ length out
    → HalvesAt (take stop out) front e a b start middle → one ≡ get_or out (start + 1) blank → other ≡ get_or out middle blank → AreFilled l r a b
    → l ≢ One → r ≡ One → value ≡ max one.value other.value → new ≡ set out middle (entry value 1) → AreRaised (take stop new) front e l r a b
raised_at_right out new front e one other l r a b start middle stop value begins inside within h x y f other_id owned v is =
    raises_right (take stop out) (take stop new) front e one other l r a b start middle value h
    (raised_read out front e one other a b start middle stop begins inside within x y)
    f other_id owned v (ap (take stop) is ∙ take-set-lt stop out middle (entry value 1) inside)

-- ---- the whole list, as a slice

pub refilled : (items slice new : List Entry) → slice ≡ items → length new ≡ length slice → refill (length items) items new ≡ new
refilled items slice new same long = take_at new (drop (length new) items) (length items) (long ∙ ap length same)

pub whole_slice : (items slice halves : List Entry) (stop : ℕ) → slice ≡ items → stop ≡ length items → items ≡ halves → take stop slice ≡ halves
whole_slice items slice halves stop same long are = ap (take stop) same ∙ take_all stop items (omega (arith, long)) ∙ are

pub cut_at_end : (items slice new : List Entry) (stop end : ℕ) → slice ≡ items → stop ≡ length items → length new ≡ length slice → stop ≤ end → refill (length items) items new ≡ take end new
cut_at_end items slice new stop end same long as_long le =
    refilled items slice new same as_long ∙ sym (take_all end new (omega (arith, long, as_long, ap length same, le)))

-- ---- what a walk has written

pub if_ok : {T E : Type 0} {P Q : T → Type 0} (r : Result T E) → ((x : T) → P x → Q x) → IfOk r P → IfOk r Q
if_ok (Ok x) f p = f x p
if_ok (Err e) f p = tt

pub node_written : {E : Type 0} (r : Result ℕ E) (old one both new : List Entry) (start middle stop : ℕ) (a b : EventTree) → start < length old → HasTreeWritten old one (start + 1) middle a → HasTreeWritten one both middle stop b → length new ≡ length both
    → IfOk r (λ end. (front : List Entry) (e : Entry) (c d : EventTree) → length front ≡ start → middle ≡ start + 1 + size c → take stop both ≡ front ++ e ∷ (preorder c ++ preorder d) → EndsInNode new front (normal_node 0 c d) end stop)
    → IfOk r (λ end. HasTreeWritten old new start end (normal_node 0 a b) × (end ≤ stop))
node_written r old one both new start middle stop a b lt w v long closed =
    let h = written_both old one both start middle stop a b lt w v in
    if_ok r
    (λ end is.
    let there = is (take start old) (get_or old start blank) a b h.begins h.halved h.are in
    (record { as_long = long ∙ v.as_long ∙ w.as_long; within = omega (arith, there.0, v.within, w.as_long); are = there.1 }, there.0))
    closed

-- the whole of it, from the first place on
pub written_from_none : (old new items : List Entry) (stop : ℕ) (t : EventTree) → HasTreeWritten old new 0 stop t → items ≡ take stop new → items ≡ preorder t
written_from_none old new items stop t w is = is ∙ w.are
