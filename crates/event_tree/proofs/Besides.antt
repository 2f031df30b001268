-- A tree restricted to one part alone is that part beside leaves, and its entries from the top down.
use Rattle.std.proofs.Common.{◌≡◌, ◌≢◌, ℕ, zero, suc, ◌+◌, ◌-◌, ◌≤◌, ◌<◌, min, Bool, true, false, inl, inr, List, [], ◌∷◌, ◌++◌, length, take, drop, set, refl, sym, ap, ◌∙◌, arith, append_assoc, append-nil, length-append, length-set}
use Rattle.std.proofs.lemmas.Bool.{cases_Bool}
use Rattle.std.proofs.lemmas.List.{length-take-le, length-replicate, replicate-append-replicate}
use Rattle.std.proofs.Math.Seq.{take-append_seam, drop-append_seam}
use Rattle.id_tree.specs.Points.{Point}
use Rattle.id_tree.specs.OneWay.{id_of_way}
use Rattle.id_tree.specs.Size.{size as id_size}
use Rattle.event_tree.specs.EventTree.{EventTree, Leaf, Node}
use Rattle.event_tree.specs.NormalForm.{are_equal_leaves, greatest, value_limit}
use Rattle.event_tree.specs.Halves.{root, left, right}
use Rattle.event_tree.specs.Norm.{lifted, lowered, normal_node}
use Rattle.event_tree.specs.Size.{size}
use Rattle.event_tree.specs.working.Entries.{entry, preorder}
use Rattle.event_tree.specs.working.Walks.{restricted_from}
use Rattle.event_tree.specs.working.Beside.{part_at, base_at, rooted, beside, size_beside, level, down, left_turns, leaves, width, IsHalfway}
use Rattle.event_tree.specs.declared.layout.entries.Entry.{Entry}
use Rattle.event_tree.proofs.Normal.{equal_leaves, root_le_greatest}
use Rattle.event_tree.proofs.Preorder.{below, preorder_root, length_preorder, some_size}
use Rattle.event_tree.proofs.Closed.{normal_else, leaves_one, written}

-- ---- the shape

size_rooted : (v : ℕ) (t : EventTree) → size (rooted v t) ≡ size t
size_rooted v (Leaf n) = refl
size_rooted v (Node n a b) = refl

lifted_rooted : (x : ℕ) (t : EventTree) → lifted x t ≡ rooted (x + root t) t
lifted_rooted x (Leaf n) = let same : n + x ≡ x + n = omega arith in ap Leaf same
lifted_rooted x (Node n a b) = let same : n + x ≡ x + n = omega arith in ap (λ (m : ℕ). Node m a b) same

root_beside : (p : Point) (v k : ℕ) (t : EventTree) → root (beside p v k t) ≡ v
root_beside [] v k (Leaf n) = refl
root_beside [] v k (Node n a b) = refl
root_beside (false ∷ p) v k t = refl
root_beside (true ∷ p) v k t = refl

lowered_beside : (p : Point) (m k : ℕ) (t : EventTree) → lowered m (beside p m k t) ≡ beside p 0 k t
lowered_beside p m k t = let none : m - m ≡ 0 = omega arith in by_cases p t none
  where
    by_cases : (p : Point) (t : EventTree) → m - m ≡ 0 → lowered m (beside p m k t) ≡ beside p 0 k t
    by_cases [] (Leaf n) none = ap Leaf none
    by_cases [] (Node n a b) none = ap (λ (x : ℕ). Node x a b) none
    by_cases (false ∷ p) t none = ap (λ (x : ℕ). Node x (beside p 0 k t) (Leaf k)) none
    by_cases (true ∷ p) t none = ap (λ (x : ℕ). Node x (Leaf k) (beside p 0 k t)) none

-- only a leaf alone is the leaf of the limit
no_limit : (p : Point) (m k : ℕ) (t : EventTree) → rooted m t ≢ Leaf value_limit → beside p m k t ≢ Leaf value_limit
no_limit [] m k t h = h
no_limit (false ∷ p) m k t h = λ e. cc
no_limit (true ∷ p) m k t h = λ e. cc

-- ---- a level of it

unlike_left : (t : EventTree) → t ≢ Leaf value_limit → are_equal_leaves t (Leaf value_limit) ≡ false
unlike_left t h = elim (cases_Bool (are_equal_leaves t (Leaf value_limit))) [
  | inl e ↦ let both = equal_leaves t (Leaf value_limit) e in absurd (h (both.0 ∙ sym both.1))
  | inr e ↦ e
]

unlike_right : (t : EventTree) → t ≢ Leaf value_limit → are_equal_leaves (Leaf value_limit) t ≡ false
unlike_right t h = elim (cases_Bool (are_equal_leaves (Leaf value_limit) t)) [
  | inl e ↦ absurd (h (equal_leaves (Leaf value_limit) t e).1)
  | inr e ↦ e
]

left_level : (t : EventTree) (m : ℕ) → root t ≡ m → m ≤ value_limit → t ≢ Leaf value_limit → normal_node 0 t (Leaf value_limit) ≡ Node m (lowered m t) (Leaf (value_limit - m))
left_level t m r within h =
    let least : min (root t) value_limit ≡ m = omega (arith, r, within) in
    let none : 0 + m ≡ m = omega arith in
    normal_else 0 t (Leaf value_limit) (unlike_left t h)
    ∙ ap (λ (k : ℕ). Node (0 + k) (lowered k t) (Leaf (value_limit - k))) least
    ∙ ap (λ (k : ℕ). Node k (lowered m t) (Leaf (value_limit - m))) none

right_level : (t : EventTree) (m : ℕ) → root t ≡ m → m ≤ value_limit → t ≢ Leaf value_limit → normal_node 0 (Leaf value_limit) t ≡ Node m (Leaf (value_limit - m)) (lowered m t)
right_level t m r within h =
    let least : min value_limit (root t) ≡ m = omega (arith, r, within) in
    let none : 0 + m ≡ m = omega arith in
    normal_else 0 (Leaf value_limit) t (unlike_right t h)
    ∙ ap (λ (k : ℕ). Node (0 + k) (Leaf (value_limit - k)) (lowered k t)) least
    ∙ ap (λ (k : ℕ). Node k (Leaf (value_limit - m)) (lowered m t)) none

-- ---- the whole

pub restricted_beside : (p : Point) (x m : ℕ) (e : EventTree) → m ≡ base_at p x e + root (part_at p e) → m ≤ value_limit → rooted m (part_at p e) ≢ Leaf value_limit
    → restricted_from (id_of_way p) x e ≡ beside p m (value_limit - m) (part_at p e)
restricted_beside [] x m e is within h = lifted_rooted x e ∙ ap (λ (v : ℕ). rooted v e) (sym is)
restricted_beside (false ∷ p) x m e is within h =
    let k = value_limit - m in
    let t = part_at p (left e) in
    ap (λ (u : EventTree). normal_node 0 u (Leaf value_limit)) (restricted_beside p (x + root e) m (left e) is within h)
    ∙ left_level (beside p m k t) m (root_beside p m k t) within (no_limit p m k t h)
    ∙ ap (λ (u : EventTree). Node m u (Leaf k)) (lowered_beside p m k t)
restricted_beside (true ∷ p) x m e is within h =
    let k = value_limit - m in
    let t = part_at p (right e) in
    ap (λ (u : EventTree). normal_node 0 (Leaf value_limit) u) (restricted_beside p (x + root e) m (right e) is within h)
    ∙ right_level (beside p m k t) m (root_beside p m k t) within (no_limit p m k t h)
    ∙ ap (λ (u : EventTree). Node m (Leaf k) u) (lowered_beside p m k t)

pub restricted_limit : (p : Point) (x : ℕ) (e : EventTree) → lifted (base_at p x e) (part_at p e) ≡ Leaf value_limit → restricted_from (id_of_way p) x e ≡ Leaf value_limit
restricted_limit [] x e h = h
restricted_limit (false ∷ p) x e h =
    ap (λ (u : EventTree). normal_node 0 u (Leaf value_limit)) (restricted_limit p (x + root e) (left e) h) ∙ leaves_one value_limit value_limit refl
restricted_limit (true ∷ p) x e h =
    ap (λ (u : EventTree). normal_node 0 (Leaf value_limit) u) (restricted_limit p (x + root e) (right e) h) ∙ leaves_one value_limit value_limit refl

-- ---- its entries

leaves_last : (n k : ℕ) → leaves n k ++ entry k 1 ∷ [] ≡ entry k 1 ∷ leaves n k
leaves_last zero k = refl
leaves_last (suc n) k = ap (λ (es : List Entry). entry k 1 ∷ es) (leaves_last n k)

sized_beside : (p : Point) (v k : ℕ) (t : EventTree) → size (beside p v k t) ≡ size_beside p t
sized_beside [] v k t = size_rooted v t
sized_beside (false ∷ p) v k t = omega (arith, sized_beside p 0 k t)
sized_beside (true ∷ p) v k t = omega (arith, sized_beside p 0 k t)

pub preorder_beside : (p : Point) (v k : ℕ) (t : EventTree) → preorder (beside p v k t) ≡ down p v k t ++ leaves (left_turns p) k
preorder_beside [] v k t = sym (append-nil (preorder (rooted v t)))
preorder_beside (false ∷ p) v k t =
    let long : size (beside p 0 k t) + 1 + 1 ≡ size_beside p t + 2 = omega (arith, sized_beside p 0 k t) in
    let inside : preorder (beside p 0 k t) ++ entry k 1 ∷ [] ≡ down p 0 k t ++ entry k 1 ∷ leaves (left_turns p) k =
    ap (λ (es : List Entry). es ++ entry k 1 ∷ []) (preorder_beside p 0 k t)
    ∙ append_assoc (down p 0 k t) (leaves (left_turns p) k) (entry k 1 ∷ [])
    ∙ ap (λ (es : List Entry). down p 0 k t ++ es) (leaves_last (left_turns p) k) in
    rw (long, inside) refl
preorder_beside (true ∷ p) v k t =
    let long : 1 + size (beside p 0 k t) + 1 ≡ size_beside p t + 2 = omega (arith, sized_beside p 0 k t) in
    rw (long, preorder_beside p 0 k t) refl

-- as many are left for the leaves behind it
pub length_down : (p : Point) (v k : ℕ) (t : EventTree) → size_beside p t ≡ length (down p v k t) + left_turns p
length_down [] v k t = omega (arith, length_preorder (rooted v t), size_rooted v t)
length_down (false ∷ p) v k t = omega (arith, length_down p 0 k t)
length_down (true ∷ p) v k t = omega (arith, length_down p 0 k t)

pub size_of_way : (p : Point) (t : EventTree) → id_size (id_of_way p) + size t ≡ size_beside p t + 1
size_of_way [] t = omega arith
size_of_way (false ∷ p) t = omega (arith, size_of_way p t)
size_of_way (true ∷ p) t = omega (arith, size_of_way p t)

-- ---- what the walk has written

some_beside : (p : Point) (t : EventTree) → 1 ≤ size_beside p t
some_beside [] t = some_size t
some_beside (turn ∷ p) t = omega arith

width_within : (turn : Bool) → (1 ≤ width turn) × (width turn ≤ 2)
width_within false = omega arith
width_within true = omega arith

-- where the way goes on, there is room for its level and for all behind it
pub record IsLevel (way behind : Point) (turn : Bool) (s w : ℕ) (t : EventTree) : Type 0 where
  pub size_behind : s - 2 ≡ size_beside behind t
  pub some : 3 ≤ s
  pub some_wide : 1 ≤ w
  pub within : w ≤ 2

pub is_level : (way behind : Point) (turn : Bool) (s w : ℕ) (t : EventTree) → way ≡ turn ∷ behind → s ≡ size_beside way t → w ≡ width turn → IsLevel way behind turn s w t
is_level way behind turn s w t e sized wide =
    let here : s ≡ size_beside behind t + 2 = rw e at sized in
    record { size_behind = omega (arith, here); some = omega (arith, here, some_beside behind t); some_wide = omega (arith, wide, width_within turn); within = omega (arith, wide, width_within turn) }

pub ended : (way : Point) (at s n : ℕ) (t : EventTree) → way ≡ [] → s ≡ size_beside way t → at + s ≤ n → at + size t ≤ n
ended way at s n t e sized within = let here : s ≡ size t = rw e at sized in omega (arith, here, within)

-- behind a node stand the leaf beside the way, if that comes first, and the other leaves
level_first : (turn : Bool) (own : Entry) (k n l : ℕ) → n + 1 ≡ l + width turn → own ∷ leaves n k ≡ level turn own k ++ leaves l k
level_first false own k n l e = let same : n ≡ l = omega (arith, e) in ap (λ (x : ℕ). own ∷ leaves x k) same
level_first true own k n l e = let same : n ≡ suc l = omega (arith, e) in ap (λ (x : ℕ). own ∷ leaves x k) same

width_level : (turn : Bool) (own : Entry) (k : ℕ) → length (level turn own k) ≡ width turn
width_level false own k = refl
width_level true own k = refl

pub level_written : (out new whole : List Entry) (way behind : Point) (turn : Bool) (at next v s k : ℕ) (t : EventTree) → at + width turn ≤ length out → at < length out → way ≡ turn ∷ behind → s ≡ size_beside way t → next ≡ at + width turn
    → new ≡ set out at (entry v s) → IsHalfway out at k (down way v k t) whole → IsHalfway new next k (down behind 0 k t) whole
level_written out new whole way behind turn at next v s k t room below w sized up is h =
    let front = take at out in
    let own = entry v s in
    let after = length out - next in
    let front_long : length front ≡ at = length-take-le at out (omega (arith, below)) in
    let more : length out - at ≡ suc (length out - (at + 1)) = omega (arith, below) in
    let opened : out ≡ front ++ entry k 1 ∷ leaves (length out - (at + 1)) k = h.behind ∙ ap (λ (n : ℕ). front ++ leaves n k) more in
    let put_there : new ≡ front ++ own ∷ leaves (length out - (at + 1)) k = is ∙ written front (leaves (length out - (at + 1)) k) out (entry k 1) own at front_long opened in
    let parts : new ≡ (front ++ level turn own k) ++ leaves after k =
    put_there ∙ ap (λ (es : List Entry). front ++ es) (level_first turn own k (length out - (at + 1)) after (omega (arith, room, below, up))) ∙ sym (append_assoc front (level turn own k) (leaves after k)) in
    let long : next ≡ length (front ++ level turn own k) = omega (arith, up, length-append front (level turn own k), front_long, width_level turn own k) in
    let here : take next new ≡ front ++ level turn own k = rw (long, parts) (take-append_seam (front ++ level turn own k) (leaves after k)) in
    let as_long : length new ≡ length out = ap length is ∙ length-set out at own in
    let size_here : s ≡ size_beside behind t + 2 = rw w at sized in
    record {
      behind = parts ∙ ap (λ (es : List Entry). es ++ leaves after k) (sym here) ∙ ap (λ (n : ℕ). take next new ++ leaves (n - next) k) (sym as_long);
      are =
          ap (λ (es : List Entry). es ++ down behind 0 k t) here
          ∙ append_assoc front (level turn own k) (down behind 0 k t)
          ∙ ap (λ (n : ℕ). front ++ (level turn (entry v n) k ++ down behind 0 k t)) size_here
          ∙ rw w at h.are;
    }

pub whole_down : (out new : List Entry) (p way : Point) (at m v k : ℕ) (t : EventTree) → length out ≡ size_beside p t → at + size t ≤ length out → new ≡ take at out ++ (preorder (rooted v t) ++ drop (at + size t) out)
    → way ≡ [] → IsHalfway out at k (down way v k t) (down p m k t) → new ≡ preorder (beside p m k t)
whole_down out new p way at m v k t long room is ends h =
    let whole : take at out ++ preorder (rooted v t) ≡ down p m k t = rw ends at h.are in
    let front = take at out in
    let after = length out - (at + size t) in
    let front_long : length front ≡ at = length-take-le at out (omega (arith, room)) in
    let both : size t + after ≡ length out - at = omega (arith, room) in
    let parts : out ≡ (front ++ leaves (size t) k) ++ leaves after k =
    h.behind
    ∙ ap (λ (n : ℕ). front ++ leaves n k) (sym both)
    ∙ ap (λ (es : List Entry). front ++ es) (sym (replicate-append-replicate (size t) after (entry k 1)))
    ∙ sym (append_assoc front (leaves (size t) k) (leaves after k)) in
    let seam : at + size t ≡ length (front ++ leaves (size t) k) = omega (arith, length-append front (leaves (size t) k), front_long, length-replicate (size t) (entry k 1)) in
    let over : drop (at + size t) out ≡ leaves after k = ap (λ (es : List Entry). drop (at + size t) es) parts ∙ ap (λ (n : ℕ). drop n ((front ++ leaves (size t) k) ++ leaves after k)) seam ∙ drop-append_seam (front ++ leaves (size t) k) (leaves after k) in
    let turned : after ≡ left_turns p =
    omega (arith, long, length_down p m k t, ap length whole, length-append front (preorder (rooted v t)), front_long, length_preorder (rooted v t), size_rooted v t) in
    is
    ∙ ap (λ (es : List Entry). front ++ (preorder (rooted v t) ++ es)) over
    ∙ sym (append_assoc front (preorder (rooted v t)) (leaves after k))
    ∙ ap (λ (es : List Entry). es ++ leaves after k) whole
    ∙ ap (λ (n : ℕ). down p m k t ++ leaves n k) turned
    ∙ sym (preorder_beside p m k t)

preorder_rooted : (v : ℕ) (t : EventTree) → preorder (rooted v t) ≡ entry v (size t) ∷ below t
preorder_rooted v (Leaf n) = refl
preorder_rooted v (Node n a b) = refl

-- the part's entries, of which the first is written over
pub rooted_written : (out copied new entries : List Entry) (at v s : ℕ) (t : EventTree) → at + size t ≤ length out → entries ≡ preorder t → s ≡ size t → copied ≡ take at out ++ (entries ++ drop (at + length entries) out) → new ≡ set copied at (entry v s)
    → new ≡ take at out ++ (preorder (rooted v t) ++ drop (at + size t) out)
rooted_written out copied new entries at v s t room e z c is =
    let long : length entries ≡ size t = ap length e ∙ length_preorder t in
    let rest = drop (at + size t) out in
    let opened : copied ≡ take at out ++ entry (root t) (size t) ∷ (below t ++ rest) =
    c ∙ ap (λ (n : ℕ). take at out ++ (entries ++ drop (at + n) out)) long ∙ ap (λ (es : List Entry). take at out ++ (es ++ rest)) (e ∙ preorder_root t) in
    is ∙ ap (λ (n : ℕ). set copied at (entry v n)) z
    ∙ written (take at out) (below t ++ rest) copied (entry (root t) (size t)) (entry v (size t)) at (length-take-le at out (omega (arith, room))) opened
    ∙ ap (λ (es : List Entry). take at out ++ (es ++ rest)) (sym (preorder_rooted v t))

pub only_leaves : (slice items : List Entry) (n k : ℕ) → slice ≡ items → items ≡ leaves n k → slice ≡ leaves (length slice) k
only_leaves slice items n k s is =
    let all : slice ≡ leaves n k = s ∙ is in
    let long : n ≡ length slice = sym (ap length all ∙ length-replicate n (entry k 1)) in
    all ∙ ap (λ (x : ℕ). leaves x k) long

-- the part and the sum of the bases above it, as the walk down found them, and what the values are that are written
pub record IsPlace (p : Point) (e part : EventTree) (x : ℕ) : Type 0 where
  pub base_is : x ≡ base_at p 0 e
  pub part_is : part ≡ part_at p e
  pub within : x + greatest part < 4294967296

pub is_place : (p again : Point) (e part : EventTree) (x : ℕ) → again ≡ p → x ≡ base_at again 0 e → part ≡ part_at again e → x + greatest part < 4294967296 → IsPlace p e part x
is_place p again e part x same b t w = record { base_is = rw same at b; part_is = rw same at t; within = w }

pub limit_found : (p : Point) (e part : EventTree) (x : ℕ) → IsPlace p e part x → lifted x part ≡ Leaf value_limit → restricted_from (id_of_way p) 0 e ≡ Leaf value_limit
limit_found p e part x h full = restricted_limit p 0 e (rw (h.base_is, h.part_is) at full)

pub whole_sized : (p : Point) (part : EventTree) (id_is part_is s : ℕ) → id_is ≡ id_size (id_of_way p) → part_is ≡ size part → s + 1 ≡ id_is + part_is → s ≡ size_beside p part
whole_sized p part id_is part_is s i t is = omega (arith, i, t, is, size_of_way p part)

pub whole_written : (p : Point) (e part : EventTree) (x m k : ℕ) (es : List Entry) → IsPlace p e part x → ¬ (lifted x part ≡ Leaf value_limit) → m ≡ x + root part → k ≡ value_limit - m
    → es ≡ preorder (beside p m k part) → es ≡ preorder (restricted_from (id_of_way p) 0 e)
whole_written p e part x m k es h open_part m_is k_is is =
    let small : m ≤ value_limit = omega (arith, m_is, h.within, root_le_greatest part) in
    let unlike : rooted m part ≢ Leaf value_limit = λ full. open_part (lifted_rooted x part ∙ ap (λ (v : ℕ). rooted v part) (sym m_is) ∙ full) in
    let base : m ≡ base_at p 0 e + root (part_at p e) = rw (h.base_is, h.part_is) at m_is in
    let shape : restricted_from (id_of_way p) 0 e ≡ beside p m (value_limit - m) (part_at p e) = restricted_beside p 0 m e base small (rw h.part_is at unlike) in
    is ∙ ap preorder (ap (λ (v : ℕ). beside p m v part) k_is ∙ ap (λ (t : EventTree). beside p m (value_limit - m) t) h.part_is ∙ sym shape)
