-- A node whose halves were filled, in the order of the walk.
use Rattle.std.proofs.Common.{◌≡◌, ◌↔◌, ℕ, IsTrue, [], ◌+◌, ◌≤◌, ◌<◌, max, List, ◌∷◌, ◌++◌, length, take, get_or, refl, sym, ap, subst, ◌∙◌, arith, append_assoc, append-nil, length-append}
use Rattle.id_tree.specs.IdTree.{IdTree, Zero, One, Pair}
use Rattle.id_tree.specs.NormalForm.{IsNormal as IsNormalId}
use Rattle.event_tree.specs.EventTree.{EventTree, Leaf, Node}
use Rattle.event_tree.specs.NormalForm.{least, greatest, IsNormal}
use Rattle.event_tree.specs.Halves.{root}
use Rattle.event_tree.specs.Norm.{normal_node}
use Rattle.event_tree.specs.Size.{size}
use Rattle.event_tree.specs.working.Entries.{entry, blank, preorder}
use Rattle.event_tree.specs.working.Writing.{HasTreeWritten}
use Rattle.event_tree.specs.working.Walks.{filled, filled_node, left_raised, right_raised, AreFilled, IsFilled}
use Rattle.event_tree.specs.working.Filled.{IsHere, IsFilledFrom, IsStopOf, AreMade, Tells}
use Rattle.event_tree.specs.declared.event.fill_in_copy.Look.{Look}
use Rattle.event_tree.specs.declared.event.fill_in_copy.Look.TheVariants.{Kept, Changed}
use Rattle.event_tree.specs.declared.event.fill_in_copy.FilledEnd.{FilledEnd}
use Rattle.event_tree.specs.declared.layout.entries.Entry.{Entry}
use Rattle.std.specs.List.{refill}
use Rattle.std.proofs.Math.Seq.{take-append_seam}
use Rattle.event_tree.proofs.Preorder.{length_preorder, some_size}
use Rattle.event_tree.proofs.Trees.{root_least, least_le_greatest}
use Rattle.event_tree.proofs.Normal.{norm-normal, root_le_greatest}
use Rattle.event_tree.proofs.Fills.{filled_leaf, topped, filled_node-topped, IsNormal-filled, greatest_filled, kept_inside}
use Rattle.event_tree.proofs.Closed.{HalvesAt}
use Rattle.event_tree.proofs.Places.{written_both, EndsInNode, refilled}

owned_leaf : (i : IdTree) (e : EventTree) → i ≡ One → filled i e ≡ Leaf (greatest (filled i e))
owned_leaf i e h = rw h refl

pub are_filled : (l r : IdTree) (a b : EventTree) → IsNormalId l → IsNormalId r → IsNormal a → IsNormal b → AreFilled l r (filled l a) (filled r b)
are_filled l r a b hl hr na nb = record {
  left_leaf = owned_leaf l a;
  right_leaf = owned_leaf r b;
  left_least = root_least (filled l a) (IsNormal-filled l a hl na);
  right_least = root_least (filled r b) (IsNormal-filled r b hr nb);
}

size_leaf : (v : ℕ) (a : EventTree) → a ≡ Leaf (greatest a) → size (Leaf v) ≡ size a
size_leaf v a e = rw e refl

size_left : (l r : IdTree) (a b : EventTree) → AreFilled l r a b → size (left_raised l r a b) ≡ size a
size_left Zero r a b f = refl
size_left One r a b f = size_leaf (max (greatest a) (least b)) a (f.left_leaf refl)
size_left (Pair c d) r a b f = refl

greatest_left : (l r : IdTree) (a b : EventTree) → greatest (left_raised l r a b) ≤ max (greatest a) (greatest b)
greatest_left Zero r a b = omega arith
greatest_left One r a b = omega (arith, least_le_greatest b)
greatest_left (Pair c d) r a b = omega arith

greatest_right : (l r : IdTree) (a b : EventTree) → greatest (right_raised l r a b) ≤ max (greatest a) (greatest b)
greatest_right One r a b = omega arith
greatest_right Zero Zero a b = omega arith
greatest_right Zero One a b = omega (arith, least_le_greatest a)
greatest_right Zero (Pair c d) a b = omega arith
greatest_right (Pair g h) Zero a b = omega arith
greatest_right (Pair g h) One a b = omega (arith, least_le_greatest a)
greatest_right (Pair g h) (Pair c d) a b = omega arith

pub filled_is : (l r : IdTree) (n : ℕ) (a b : EventTree) → normal_node n (left_raised l r a b) (right_raised l r a b) ≡ filled_node l r n a b
filled_is One r n a b = refl
filled_is Zero Zero n a b = refl
filled_is Zero One n a b = refl
filled_is Zero (Pair c d) n a b = refl
filled_is (Pair g h) Zero n a b = refl
filled_is (Pair g h) One n a b = refl
filled_is (Pair g h) (Pair c d) n a b = refl

pub raised_fits : (l r : IdTree) (n : ℕ) (a b : EventTree) → IsNormalId l → IsNormalId r → n + max (greatest a) (greatest b) < 4294967296
    → n + max (greatest (left_raised l r (filled l a) (filled r b))) (greatest (right_raised l r (filled l a) (filled r b))) < 4294967296
raised_fits l r n a b hl hr f =
    omega (arith, greatest_left l r (filled l a) (filled r b), greatest_right l r (filled l a) (filled r b), greatest_filled l a hl, greatest_filled r b hr)

pub halves_raised : (es new front : List Entry) (e : Entry) (l r : IdTree) (a b : EventTree) (start middle : ℕ) → HalvesAt es front e a b start middle → AreFilled l r a b → new ≡ front ++ e ∷ (preorder (left_raised l r a b) ++ preorder (right_raised l r a b))
    → HalvesAt new front e (left_raised l r a b) (right_raised l r a b) start middle
halves_raised es new front e l r a b start middle h f is = record { begins = h.begins; halved = omega (arith, h.halved, size_left l r a b f); are = is }

-- ---- a node that filling leaves as it is

-- the node of two halves that stand in normal form beside each other is no other one
normal_node-kept : (n : ℕ) (a b : EventTree) → IsNormal (Node n a b) → normal_node n a b ≡ Node n a b
normal_node-kept n a b h = rw (norm-normal a h.0, norm-normal b h.1) at (norm-normal (Node n a b) h)

-- a half that filling leaves as it is, at or above k at its root, is not raised to k
topped-kept : (i : IdTree) (a : EventTree) (k : ℕ) → filled i a ≡ a → (i ≡ One → k ≤ root a) → topped i a k ≡ a
topped-kept Zero a k same above = refl
topped-kept One a k same above = let top : max (greatest a) k ≡ greatest a = omega (arith, above refl, root_le_greatest a) in rw top same
topped-kept (Pair l r) a k same above = refl

-- The tree is a node whose halves filling leaves as they are, and a half that is owned whole is at or above the other one.
pub filled_kept : (l r : IdTree) (n : ℕ) (a b : EventTree) → IsNormalId (Pair l r) → IsNormal (Node n a b)
    → (l ≡ One → root b ≤ root a) → (r ≡ One → root a ≤ root b) → filled l a ≡ a → filled r b ≡ b
    → filled (Pair l r) (Node n a b) ≡ Node n a b
filled_kept l r n a b hi he above beside sa sb =
    let ra = root_least a he.0 in
    let rb = root_least b he.1 in
    let ta : topped l a (least b) ≡ a = topped-kept l a (least b) sa (λ o. omega (arith, above o)) in
    let tb : topped r b (least a) ≡ b = topped-kept r b (least a) sb (λ o. omega (arith, beside o)) in
    ap (λ t. filled_node l r n t (filled r b)) sa
    ∙ ap (λ t. filled_node l r n a t) sb
    ∙ filled_node-topped l r n a b hi.2
    ∙ ap (λ t. normal_node n t (topped r b (least a))) ta
    ∙ ap (λ t. normal_node n a t) tb
    ∙ normal_node-kept n a b he

-- ---- a node that was filled, as it is written

pub raised_closed : (old one both raised new : List Entry) (start middle stop end n : ℕ) (l r : IdTree) (a b : EventTree) → start < length old → HasTreeWritten old one (start + 1) middle a → HasTreeWritten one both middle stop b
    → AreFilled l r a b → length raised ≡ length both → take stop raised ≡ take start old ++ get_or old start blank ∷ (preorder (left_raised l r a b) ++ preorder (right_raised l r a b))
    → length new ≡ length raised
    → ((front : List Entry) (e : Entry) (c d : EventTree) → length front ≡ start → middle ≡ start + 1 + size c → take stop raised ≡ front ++ e ∷ (preorder c ++ preorder d) → EndsInNode new front (normal_node n c d) end stop)
    → HasTreeWritten old new start end (filled_node l r n a b) × (end ≤ stop)
raised_closed old one both raised new start middle stop end n l r a b lt w v f along is long closed =
    let h = written_both old one both start middle stop a b lt w v in
    let g = halves_raised (take stop both) (take stop raised) _ _ l r a b start middle h f is in
    let there = closed (take start old) (get_or old start blank) (left_raised l r a b) (right_raised l r a b) g.begins g.halved g.are in (
      record {
        as_long = long ∙ along ∙ v.as_long ∙ w.as_long;
        within = omega (arith, there.0, v.within, w.as_long);
        are = there.1 ∙ ap (λ (t : EventTree). take start old ++ preorder t) (filled_is l r n a b);
      },
      there.0,
    )

-- ---- what filling leaves as it is, level by level

pub nothing_kept : (k : ℕ) (e : EventTree) → IsFilled k Zero e
nothing_kept k e = record { kept = refl; above = λ o. absurd cc }

pub leaf_kept : (l r : IdTree) (k n : ℕ) → IsFilled k (Pair l r) (Leaf n)
leaf_kept l r k n = record { kept = refl; above = λ o. absurd cc }

pub whole_kept : (k n : ℕ) → (k ≤ n) ↔ IsFilled k One (Leaf n)
whole_kept k n = (λ low. record { kept = refl; above = λ o. low }, λ h. h.above refl)

pub whole_node : (k n : ℕ) (a b : EventTree) → ¬ IsFilled k One (Node n a b)
whole_node k n a b h = let same = h.kept in absurd cc

pub halves_kept : (l r : IdTree) (k n : ℕ) (a b : EventTree) → IsNormalId (Pair l r) → IsNormal (Node n a b) → IsFilled (root b) l a → IsFilled (root a) r b → IsFilled k (Pair l r) (Node n a b)
halves_kept l r k n a b hi he x y = record { kept = filled_kept l r n a b hi he x.above y.above x.kept y.kept; above = λ o. absurd cc }

-- and the halves of what it leaves
pub kept_halves : (l r : IdTree) (k n : ℕ) (a b : EventTree) → IsNormalId (Pair l r) → IsNormal (Node n a b) → IsFilled k (Pair l r) (Node n a b) → IsFilled (root b) l a × IsFilled (root a) r b
kept_halves l r k n a b hi he h =
    let inside = kept_inside l r n a b hi he h.kept in
    let ra = root_least a he.0 in
    let rb = root_least b he.1 in
    (record { kept = inside.left_same; above = λ o. omega (arith, ra, rb, inside.left_above o) }, record { kept = inside.right_same; above = λ o. omega (arith, ra, rb, inside.right_above o) })

pub halves_told : (i : IdTree) (e : EventTree) (l r : IdTree) (k n x y : ℕ) (a b : EventTree) → IsNormalId i → IsNormal e → i ≡ Pair l r → e ≡ Node n a b → x ≡ root b → y ≡ root a → (IsFilled x l a × IsFilled y r b) ↔ IsFilled k i e
halves_told i e l r k n x y a b hi he id_is tree_is first second =
    let hp : IsNormalId (Pair l r) = rw id_is at hi in
    let hn : IsNormal (Node n a b) = rw tree_is at he in
    rw (first, second, id_is, tree_is) (λ p. halves_kept l r k n a b hp hn p.0 p.1, λ h. kept_halves l r k n a b hp hn h)

-- ---- what was made, in a copy or in room for it

abbrev pub are_made : (n start : ℕ) (one other : FilledEnd) (old between now : List Entry) (l r : IdTree) (a b : EventTree) → IsNormalId (Pair l r) → IsNormal (Node n a b) → greatest (Node n a b) < 4294967296 → start + size (Node n a b) ≤ length old
    → IsFilledFrom l a old between (start + 1) one → IsFilledFrom r b between now one.stop other → AreMade n start one other now
are_made n start one other old between now l r a b hi he f room x y = record {
  old = old;
  between = between;
  l = l;
  r = r;
  a = a;
  b = b;
  id_normal = hi;
  tree_normal = he;
  fits = f;
  room = room;
  first_made = x;
  second_made = y;
}

-- where it stops, with whether all of it is owned
pub ended_at : (i : IdTree) (e : EventTree) (old new : List Entry) (start stop : ℕ) (end : FilledEnd) → end.stop ≡ stop → (IsTrue end.whole ↔ (i ≡ One)) → IsStopOf i e old new start stop → IsFilledFrom i e old new start end
ended_at i e old new start stop end at told m = record { written = rw at m.written; next = rw at m.next; whole = told }

-- a leaf that stays
pub made_leaf : (i : IdTree) (n : ℕ) (old new : List Entry) (start stop : ℕ) → HasTreeWritten old new start stop (Leaf n) → stop ≡ start + 1 → IsStopOf i (Leaf n) old new start stop
made_leaf i n old new start stop w next = record { written = rw (filled_leaf i n) w; next = omega (arith, next) }

-- a leaf in place of what is owned whole
pub made_whole : (e : EventTree) (old new : List Entry) (start stop g : ℕ) → g ≡ greatest e → HasTreeWritten old new start stop (Leaf g) → stop ≡ start + 1 → IsStopOf One e old new start stop
made_whole e old new start stop g most w next = record { written = rw most at w; next = omega (arith, next, some_size e) }

-- where the halves of a part stand
pub here_first : (es : List Entry) (start n : ℕ) (a b : EventTree) → IsHere es start (Node n a b) → IsHere es (start + 1) a
here_first es start n a b h =
    let own = entry n (size a + size b + 1) in
    record {
      front = h.front ++ own ∷ [];
      rest = preorder b ++ h.rest;
      begins = length-append h.front (own ∷ []) ∙ ap (λ (k : ℕ). k + 1) h.begins;
      are = h.are ∙ ap (λ (xs : List Entry). h.front ++ own ∷ xs) (append_assoc (preorder a) (preorder b) h.rest) ∙ sym (append_assoc h.front (own ∷ []) (preorder a ++ (preorder b ++ h.rest)));
    }

here_behind : (es : List Entry) (start n : ℕ) (a b : EventTree) → IsHere es start (Node n a b) → IsHere es (start + 1 + size a) b
unfolding here_first
here_behind es start n a b h =
    let f = here_first es start n a b h in
    record {
      front = f.front ++ preorder a;
      rest = h.rest;
      begins = omega (arith, length-append f.front (preorder a), length_preorder a, f.begins);
      are = f.are ∙ sym (append_assoc f.front (preorder a) (preorder b ++ h.rest));
    }

pub here_left : (es : List Entry) (start n : ℕ) (e a b : EventTree) → IsHere es start e → e ≡ Node n a b → IsHere es (start + 1) a
here_left es start n e a b h is = here_first es start n a b (rw is at h)

pub here_right : (es : List Entry) (start n m : ℕ) (e a b : EventTree) → IsHere es start e → e ≡ Node n a b → m ≡ size a → IsHere es (start + 1 + m) b
here_right es start n m e a b h is long = rw long (here_behind es start n a b (rw is at h))

-- the whole of it
pub here_whole : (e : EventTree) → IsHere (preorder e) 0 e
here_whole e = record { front = []; rest = []; begins = refl; are = sym (append-nil (preorder e)) }

pub here_within : (es : List Entry) (start : ℕ) (e : EventTree) → IsHere es start e → start + size e ≤ length es
here_within es start e h = omega (arith, ap length h.are, length-append h.front (preorder e ++ h.rest), length-append (preorder e) h.rest, length_preorder e, h.begins)

-- what stays as it is stands written there
pub here_written : (es : List Entry) (start : ℕ) (e : EventTree) → IsHere es start e → HasTreeWritten es es start (start + size e) e
here_written es start e h =
    let before = h.front ++ preorder e in
    let long : start + size e ≡ length before = omega (arith, length-append h.front (preorder e), length_preorder e, h.begins) in
    let parted : es ≡ before ++ h.rest = h.are ∙ sym (append_assoc h.front (preorder e) h.rest) in
    let first : take start es ≡ h.front = ap (λ (k : ℕ). take k es) (sym h.begins) ∙ ap (take (length h.front)) h.are ∙ take-append_seam h.front (preorder e ++ h.rest) in
    record {
      as_long = refl;
      within = here_within es start e h;
      are = ap (λ (k : ℕ). take k es) long ∙ ap (take (length before)) parted ∙ take-append_seam before h.rest ∙ ap (λ (xs : List Entry). xs ++ preorder e) (sym first);
    }

-- a half that filling leaves as it is was made where it stands
pub kept_made : (k : ℕ) (i : IdTree) (e : EventTree) (es : List Entry) (start stop : ℕ) → IsHere es start e → IsFilled k i e → stop ≡ start + size e → IsStopOf i e es es start stop
kept_made k i e es start stop h f next = record {
  written = rw (next, f.kept) (here_written es start e h);
  next = omega (arith, next);
}

-- what a look tells
pub changed_of : (k : ℕ) (i : IdTree) (e : EventTree) (old new : List Entry) (start : ℕ) (look : Look) (stop : ℕ) → Tells k i e old new start look → look ≡ Changed stop → (¬ IsFilled k i e) × IsStopOf i e old new start stop
changed_of k i e old new start look stop told is = rw is at told

pub kept_of : (k : ℕ) (i : IdTree) (e : EventTree) (old new : List Entry) (start : ℕ) (look : Look) → Tells k i e old new start look → look ≡ Kept → IsFilled k i e
kept_of k i e old new start look told is = rw is at told

-- behind a half that was made there is room for the other one
pub room_behind : (i : IdTree) (e a b : EventTree) (old new : List Entry) (start n stop : ℕ) → IsHere old start e → e ≡ Node n a b → IsStopOf i a old new (start + 1) stop → stop + size b ≤ length new
room_behind i e a b old new start n stop h is m = omega (arith, here_within old start e h, ap size is, m.next, m.written.as_long)

-- what was made by way of a slice
pub made_in_copy : (i : IdTree) (e : EventTree) (items slice new : List Entry) (start stop : ℕ) → slice ≡ items → IsStopOf i e slice new start stop → IsStopOf i e items (refill (length items) items new) start stop
made_in_copy i e items slice new start stop lent m = rw (refilled items slice new lent m.written.as_long) (rw lent at m)

pub closed_in_copy : (n start : ℕ) (one other : FilledEnd) (stop : ℕ) (items slice new : List Entry) → slice ≡ items → ((h : AreMade n start one other slice) → IsStopOf (Pair h.l h.r) (Node n h.a h.b) h.old new start stop)
    → (h : AreMade n start one other items) → IsStopOf (Pair h.l h.r) (Node n h.a h.b) h.old (refill (length items) items new) start stop
closed_in_copy n start one other stop items slice new lent f h =
    let m = (rw lent at f) h in
    let long : length new ≡ length slice = omega (arith, m.written.as_long, h.second_made.written.as_long, h.first_made.written.as_long, ap length lent) in
    rw (refilled items slice new lent long) m

-- the first leaf, in the copy that was made for it
pub begun : (e : EventTree) (tree items slice new : List Entry) (start stop g : ℕ) → items ≡ tree → slice ≡ items → g ≡ greatest e → HasTreeWritten slice new start stop (Leaf g) → stop ≡ start + 1
    → IsStopOf One e tree (refill (length items) items new) start stop
begun e tree items slice new start stop g copied lent most w next =
    subst (λ (es : List Entry). IsStopOf One e es (refill (length items) items new) start stop) copied
    (made_in_copy One e items slice new start stop lent (made_whole e slice new start stop g most w next))
