-- How the text of a tree is written, entry by entry, and that it is its spelling.
use Rattle.std.proofs.Common.{◌≡◌, ℕ, ◌+◌, ◌*◌, ◌^◌, ◌<◌, ◌≤◌, false, List, [], ◌∷◌, ◌++◌, length, length-append, length-set, take, drop, set, get_or, refl, sym, ap, ◌∙◌, arith, append_assoc, append-nil, subst}
use Rattle.std.specs.Prelude.{nat_le}
use Rattle.std.specs.Fmt.{decimal}
use Rattle.std.proofs.lemmas.Bool.{lt-leb}
use Rattle.std.proofs.lemmas.List.{take_more_set, drop_more}
use Rattle.event_tree.specs.EventTree.{EventTree, Leaf, Node}
use Rattle.event_tree.specs.NormalForm.{depth}
use Rattle.event_tree.specs.Size.{size}
use Rattle.event_tree.specs.working.Entries.{entry, blank, preorder}
use Rattle.event_tree.specs.Spelling.{spelling}
use Rattle.event_tree.specs.working.Pieces.{closing, turned, piece, pieces, AreKept, IsPut, IsPutBut}
use Rattle.event_tree.specs.declared.layout.entries.Entry.{Entry}
use Rattle.event_tree.proofs.Preorder.{some_size}
use Rattle.event_tree.proofs.Digits.{halves_kept, closing_even, turned_first, closing_second, turned_second, behind_node}

-- ---- the pieces are the spelling

piece_node : (n s w : ℕ) → 1 < s → piece (entry n s) w ≡ 40 ∷ decimal n
piece_node n s w h = let big : nat_le s 1 ≡ false = lt-leb s 1 h in rw big refl

pieces_node : (n s w : ℕ) (es : List Entry) → 1 < s → pieces w (entry n s ∷ es) ≡ 44 ∷ 40 ∷ (decimal n ++ pieces (w * 2) es)
pieces_node n s w es h = rw (piece_node n s w h, behind_node n s w h) refl

grouped : (n a b s : List ℕ) → 44 ∷ 40 ∷ (n ++ 44 ∷ (a ++ 44 ∷ (b ++ 41 ∷ s))) ≡ 44 ∷ ((40 ∷ (n ++ 44 ∷ (a ++ 44 ∷ (b ++ 41 ∷ [])))) ++ s)
grouped n a b s = simp append_assoc refl

-- those of a tree, with more entries behind it
pub pieces_tree : (t : EventTree) (w : ℕ) (es : List Entry) → pieces w (preorder t ++ es) ≡ 44 ∷ (spelling t ++ (closing w ++ pieces (turned w) es))
pieces_tree (Leaf n) w es = ap (λ (bs : List ℕ). 44 ∷ bs) (append_assoc (decimal n) (closing w) (pieces (turned w) es))
pieces_tree (Node n a b) w es =
    let rest = closing w ++ pieces (turned w) es in
    let second : pieces (w * 2 + 1) (preorder b ++ es) ≡ 44 ∷ (spelling b ++ 41 ∷ rest) =
    pieces_tree b (w * 2 + 1) es ∙ rw (closing_second w, turned_second w) refl in
    let first : pieces (w * 2) (preorder a ++ (preorder b ++ es)) ≡ 44 ∷ (spelling a ++ 44 ∷ (spelling b ++ 41 ∷ rest)) =
    pieces_tree a (w * 2) (preorder b ++ es) ∙ rw (closing_even (w * 2) (omega arith), turned_first w, second) refl in
    pieces_node n (size a + size b + 1) w ((preorder a ++ preorder b) ++ es) (omega (arith, some_size a))
    ∙ rw (append_assoc (preorder a) (preorder b) es, first) (grouped (decimal n) (spelling a) (spelling b) rest)

-- what stands behind the base of a node
pub halves_spelled : (a b : EventTree) → pieces 0 (preorder a ++ preorder b) ≡ 44 ∷ (spelling a ++ 44 ∷ (spelling b ++ 41 ∷ []))
halves_spelled a b =
    let second : pieces 1 (preorder b) ≡ 44 ∷ (spelling b ++ 41 ∷ []) = ap (pieces 1) (sym (append-nil (preorder b))) ∙ pieces_tree b 1 [] in
    pieces_tree a 0 (preorder b) ∙ rw second refl

-- ---- by place

pub byte_put : (old new : List ℕ) (at stop byte : ℕ) → at < length old → new ≡ set old at byte → stop ≡ at + 1 → IsPut old new at stop (byte ∷ [])
byte_put old new at stop byte lt is next = rw (is, next) (record { as_long = length-set old at byte; next = omega arith; are = take_more_set old at byte lt })

pub put_both : (old one both : List ℕ) (start middle stop : ℕ) (xs ys text : List ℕ) → IsPut old one start middle xs → IsPut one both middle stop ys → text ≡ xs ++ ys → IsPut old both start stop text
put_both old one both start middle stop xs ys text h k is =
    rw is
    (record {
      as_long = k.as_long ∙ h.as_long;
      next = omega (arith, h.next, k.next, length-append xs ys);
      are = k.are ∙ ap (λ (bs : List ℕ). bs ++ ys) h.are ∙ append_assoc (take start old) xs ys;
    })

-- ---- on the way

pub none_put : (old : List ℕ) (start : ℕ) (text : List ℕ) → IsPutBut old old start start text text
none_put old start text = record { as_long = refl; next = refl; are = refl }

pub more_put : (old one both : List ℕ) (start middle stop : ℕ) (text xs left later : List ℕ) → IsPutBut old one start middle text left → IsPut one both middle stop xs → left ≡ xs ++ later
    → IsPutBut old both start stop text later
more_put old one both start middle stop text xs left later h k is = record {
  as_long = k.as_long ∙ h.as_long;
  next = omega (arith, h.next, k.next, ap length is, length-append xs later);
  are = ap (λ (bs : List ℕ). bs ++ later) k.are ∙ append_assoc (take middle one) xs later ∙ ap (λ (bs : List ℕ). take middle one ++ bs) (sym is) ∙ h.are;
}

pub all_put : (old new : List ℕ) (start stop : ℕ) (text left : List ℕ) → IsPutBut old new start stop text left → left ≡ [] → IsPut old new start stop text
all_put old new start stop text left h is = record {
  as_long = h.as_long;
  next = omega (arith, h.next, ap length is);
  are = sym (append-nil (take stop new)) ∙ ap (λ (bs : List ℕ). take stop new ++ bs) (sym is) ∙ h.are;
}

pub room_left : (old new : List ℕ) (start stop : ℕ) (text left : List ℕ) → IsPutBut old new start stop text left → start + length text ≤ length old → stop + length left ≤ length new
room_left old new start stop text left h room = omega (arith, h.next, h.as_long, room)

-- ---- the next entry

pub next_left : (w i : ℕ) (es : List Entry) (x : Entry) → i < length es → pieces w (drop i es) ≡ pieces w (get_or es i x ∷ drop (i + 1) es)
next_left w i es x lt = ap (pieces w) (drop_more es i x lt)

pub some_left : (w i : ℕ) (es : List Entry) → i < length es → 1 ≤ length (pieces w (drop i es))
some_left w i es lt = omega (arith, ap length (next_left w i es blank lt))

pub next_kept : (w i : ℕ) (es : List Entry) (x : Entry) → i < length es → AreKept w (drop i es) → AreKept w (get_or es i x ∷ drop (i + 1) es)
next_kept w i es x lt h = subst (AreKept w) (drop_more es i x lt) h

pub next_small : (w i : ℕ) (es : List Entry) → i < length es → AreKept w (drop i es) → w < 2 ^ 63
next_small w i es lt h = (next_kept w i es blank lt h).0

-- ---- the whole

pub behind_root : (t a b : EventTree) (n : ℕ) (es inside : List Entry) → t ≡ Node n a b → es ≡ preorder t → inside ≡ drop 1 es → inside ≡ preorder a ++ preorder b
behind_root t a b n es inside is are h = h ∙ ap (drop 1) (are ∙ ap preorder is)

pub node_kept : (t a b : EventTree) (n : ℕ) (es inside : List Entry) → t ≡ Node n a b → es ≡ preorder t → inside ≡ drop 1 es → depth t ≤ 40 → AreKept 0 inside
node_kept t a b n es inside is are h shallow =
    rw (behind_root t a b n es inside is are h) (halves_kept a b (omega (arith, shallow, ap depth is)) (omega (arith, shallow, ap depth is)))

pub node_spelled : (t a b : EventTree) (n : ℕ) (es inside : List Entry) → t ≡ Node n a b → es ≡ preorder t → inside ≡ drop 1 es → spelling t ≡ 40 ∷ (decimal n ++ pieces 0 inside)
node_spelled t a b n es inside is are h =
    ap spelling is ∙ rw (behind_root t a b n es inside is are h) (ap (λ (bs : List ℕ). 40 ∷ (decimal n ++ bs)) (sym (halves_spelled a b)))
