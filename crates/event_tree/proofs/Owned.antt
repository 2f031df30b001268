-- An id that owns one part alone, at which the tree has a leaf: filling leaves the tree as it is, and growth raises that leaf.
use Rattle.std.proofs.Common.{◌≡◌, ◌≢◌, ◌↔◌, ℕ, ◌+◌, ◌≤◌, ◌<◌, max, Bool, true, false, List, [], ◌∷◌, ◌++◌, length, set, refl, sym, ap, ◌∙◌, arith, append_assoc, length-append, length-set}
use Rattle.std.specs.List.{refill}
use Rattle.id_tree.specs.IdTree.{IdTree, Zero, One, Pair}
use Rattle.id_tree.specs.Points.{Point}
use Rattle.id_tree.specs.OneWay.{id_of_way}
use Rattle.id_tree.specs.NormalForm.{IsNormal as IsNormalId}
use Rattle.event_tree.specs.EventTree.{EventTree, Leaf, Node}
use Rattle.event_tree.specs.NormalForm.{greatest, IsNormal}
use Rattle.event_tree.specs.Halves.{root, left, right}
use Rattle.event_tree.specs.Size.{size}
use Rattle.event_tree.specs.working.Entries.{entry, preorder}
use Rattle.event_tree.specs.Event.{Cost, cost, grow, grows_left}
use Rattle.event_tree.specs.working.Walks.{filled, IsFilled}
use Rattle.event_tree.specs.working.Beside.{half_of, part_at, base_at}
use Rattle.event_tree.specs.working.OwnLeaf.{other_of, before, place_at, EndsAtLeaf, EndsAbove, EndsUnfilled, IsBelow, IsEndOf, IsOwnLeaf, IsThere, IsOwnPart}
use Rattle.event_tree.specs.declared.event.one_part.Found.{Found}
use Rattle.event_tree.specs.declared.event.one_part.Found.TheVariants.{Own, Above, Unfilled}
use Rattle.event_tree.specs.declared.event.one_part.OwnLeaf.{OwnLeaf}
use Rattle.event_tree.specs.declared.event.one_part.Below.{Below}
use Rattle.event_tree.specs.declared.layout.entries.Entry.{Entry}
use Rattle.event_tree.proofs.Preorder.{length_preorder}
use Rattle.event_tree.proofs.Places.{refilled}
use Rattle.event_tree.proofs.Filling.{filled_kept, kept_halves, whole_node}
use Rattle.event_tree.proofs.Closed.{written}

-- ---- the walk down

-- what is left of the way leads from this part where the whole leads from the tree
pub record IsOnTheWay (way : Point) (e : EventTree) (rest : Point) (part : EventTree) (at base beside : ℕ) : Type 0 where
  pub ends : EndsAtLeaf beside rest part ↔ EndsAtLeaf 0 way e
  pub ends_above : EndsAbove rest part → EndsAbove way e
  pub ends_unfilled : EndsUnfilled beside rest part → EndsUnfilled 0 way e
  pub place : at + place_at rest part ≡ place_at way e
  pub above : base_at rest base part ≡ base_at way 0 e
  pub there : part_at rest part ≡ part_at way e
  pub small : base + greatest part < 4294967296
  pub within : at + size part ≤ size e

pub at_the_top : (way : Point) (e : EventTree) → greatest e < 4294967296 → IsOnTheWay way e way e 0 0 0
at_the_top way e small = record { ends = (λ h. h, λ h. h); ends_above = λ h. h; ends_unfilled = λ h. h; place = omega arith; above = refl; there = refl; small = omega (arith, small); within = omega arith }

half_within : (turn : Bool) (n : ℕ) (a b : EventTree) → (n + greatest (half_of turn (Node n a b)) ≤ greatest (Node n a b)) × (before turn (Node n a b) + size (half_of turn (Node n a b)) ≤ size (Node n a b))
half_within false n a b = (omega arith, omega arith)
half_within true n a b = (omega arith, omega arith)

-- one turn farther down
pub farther : (way : Point) (e : EventTree) (rest behind : Point) (turn : Bool) (part : EventTree) (at base beside : ℕ) (b : Below) → rest ≡ turn ∷ behind → IsBelow turn part b → IsOnTheWay way e rest part at base beside
    → IsOnTheWay way e behind b.half (at + b.before) (base + b.base) b.beside
farther way e rest behind turn part at base beside b turns h on =
    go (root part) (left part) (right part) h.node
  where
    go : (n : ℕ) (l r : EventTree) → part ≡ Node n l r → IsOnTheWay way e behind b.half (at + b.before) (base + b.base) b.beside
    go n l r is =
        let size_is = half_within turn n l r in
        let half_is : b.half ≡ half_of turn (Node n l r) = rw is at h.half in
        let base_is : b.base ≡ n = rw is at h.base in
        let before_is : b.before ≡ before turn (Node n l r) = rw is at h.before_is in
        let beside_is : b.beside ≡ root (other_of turn (Node n l r)) = rw is at h.beside in
        let on_node : IsOnTheWay way e (turn ∷ behind) (Node n l r) at base beside = rw (turns, is) at on in
        rw (half_is, base_is, before_is, beside_is) (record {
          ends = on_node.ends;
          ends_above = on_node.ends_above;
          ends_unfilled = on_node.ends_unfilled;
          place = omega (arith, on_node.place);
          above = on_node.above;
          there = on_node.there;
          small = omega (arith, on_node.small, size_is.0);
          within = omega (arith, on_node.within, size_is.1);
        })

-- a leaf that the way goes on below, and what is no leaf of its own at the end

pub on_above : (way : Point) (e : EventTree) (rest behind : Point) (turn : Bool) (part : EventTree) (at base beside : ℕ) → rest ≡ turn ∷ behind → part ≡ Leaf (root part) → IsOnTheWay way e rest part at base beside → EndsAbove way e
on_above way e rest behind turn (Leaf n) at base beside turns leaf on = let h = rw turns at on in h.ends_above tt
on_above way e rest behind turn (Node n a b) at base beside turns leaf on = absurd cc

pub on_unfilled_leaf : (way : Point) (e : EventTree) (rest : Point) (part : EventTree) (at base beside own : ℕ) → rest ≡ [] → part ≡ Leaf own → own < beside → IsOnTheWay way e rest part at base beside → EndsUnfilled 0 way e
on_unfilled_leaf way e rest part at base beside own ended leaf low on = let h = rw (ended, leaf) at on in h.ends_unfilled (omega (arith, low))

pub on_unfilled_node : (way : Point) (e : EventTree) (rest : Point) (part : EventTree) (at base beside n : ℕ) (a b : EventTree) → rest ≡ [] → part ≡ Node n a b → IsOnTheWay way e rest part at base beside → EndsUnfilled 0 way e
on_unfilled_node way e rest part at base beside n a b ended node on = let h = rw (ended, node) at on in h.ends_unfilled tt

-- ---- growth there

-- of a half that owns something and one that owns nothing the first grows
first_grows : (p : Point) (c d : Cost) → grows_left (id_of_way p) Zero c d ≡ true
first_grows [] c d = refl
first_grows (false ∷ p) c d = refl
first_grows (true ∷ p) c d = refl

grow_first : (p : Point) (n : ℕ) (a b : EventTree) → grow (Pair (id_of_way p) Zero) (Node n a b) ≡ Node n (grow (id_of_way p) a) b
grow_first p n a b = rw (first_grows p (cost (id_of_way p) a) (cost Zero b)) refl

-- the leaf's entry, what stands before and behind it, and that growth changes it alone
pub record IsLeafThere (p : Point) (e : EventTree) : Type 0 where
  pub front : List Entry
  pub rest : List Entry
  pub place : length front ≡ place_at p e
  pub are : preorder e ≡ front ++ entry (root (part_at p e)) 1 ∷ rest
  pub grown : preorder (grow (id_of_way p) e) ≡ front ++ entry (root (part_at p e) + 1) 1 ∷ rest

same_size : (p : Point) (e : EventTree) → IsLeafThere p e → size (grow (id_of_way p) e) ≡ size e
same_size p e h =
    omega (
      arith,
      length_preorder e,
      length_preorder (grow (id_of_way p) e),
      ap length h.are,
      ap length h.grown,
      length-append h.front (entry (root (part_at p e)) 1 ∷ h.rest),
      length-append h.front (entry (root (part_at p e) + 1) 1 ∷ h.rest),
    )

pub leaf_there : (p : Point) (e : EventTree) (k : ℕ) → EndsAtLeaf k p e → IsLeafThere p e
leaf_there [] (Leaf n) k h = record { front = []; rest = []; place = refl; are = refl; grown = refl }
leaf_there [] (Node n a b) k h = absurd h
leaf_there (turn ∷ p) (Leaf n) k h = absurd h
leaf_there (false ∷ p) (Node n a b) k h =
    let t = leaf_there p a (root b) h in
    let own = entry n (size a + size b + 1) in
    let m = root (part_at p a) in
    let g = grow (id_of_way p) a in
    let as_large : size g + size b + 1 ≡ size a + size b + 1 = omega (arith, same_size p a t) in
    record {
      front = own ∷ t.front;
      rest = t.rest ++ preorder b;
      place = omega (arith, t.place);
      are = ap (λ (es : List Entry). own ∷ (es ++ preorder b)) t.are ∙ ap (λ (es : List Entry). own ∷ es) (append_assoc t.front (entry m 1 ∷ t.rest) (preorder b));
      grown =
          ap preorder (grow_first p n a b)
          ∙ ap (λ (s : ℕ). entry n s ∷ (preorder g ++ preorder b)) as_large
          ∙ ap (λ (es : List Entry). own ∷ (es ++ preorder b)) t.grown
          ∙ ap (λ (es : List Entry). own ∷ es) (append_assoc t.front (entry (m + 1) 1 ∷ t.rest) (preorder b));
    }
leaf_there (true ∷ p) (Node n a b) k h =
    let t = leaf_there p b (root a) h in
    let own = entry n (size a + size b + 1) in
    let m = root (part_at p b) in
    let g = grow (id_of_way p) b in
    let as_large : size a + size g + 1 ≡ size a + size b + 1 = omega (arith, same_size p b t) in
    record {
      front = own ∷ (preorder a ++ t.front);
      rest = t.rest;
      place = omega (arith, t.place, length-append (preorder a) t.front, length_preorder a);
      are =
          ap (λ (es : List Entry). own ∷ (preorder a ++ es)) t.are ∙ ap (λ (es : List Entry). own ∷ es) (sym (append_assoc (preorder a) t.front (entry m 1 ∷ t.rest)));
      grown =
          ap (λ (s : ℕ). entry n s ∷ (preorder a ++ preorder g)) as_large
          ∙ ap (λ (es : List Entry). own ∷ (preorder a ++ es)) t.grown
          ∙ ap (λ (es : List Entry). own ∷ es) (sym (append_assoc (preorder a) t.front (entry (m + 1) 1 ∷ t.rest)));
    }

-- its value with the bases above, before and after
pub record IsValueThere (p : Point) (x : ℕ) (e : EventTree) : Type 0 where
  pub within : base_at p x e + root (part_at p e) ≤ x + greatest e
  pub least : base_at p x e + root (part_at p e) + 1 ≤ x + greatest (grow (id_of_way p) e)
  pub most : x + greatest (grow (id_of_way p) e) ≤ max (x + greatest e) (base_at p x e + root (part_at p e) + 1)

pub value_there : (p : Point) (x : ℕ) (e : EventTree) (k : ℕ) → EndsAtLeaf k p e → IsValueThere p x e
value_there [] x (Leaf n) k h = record { within = omega arith; least = omega arith; most = omega arith }
value_there [] x (Node n a b) k h = absurd h
value_there (turn ∷ p) x (Leaf n) k h = absurd h
value_there (false ∷ p) x (Node n a b) k h =
    let t = value_there p (x + n) a (root b) h in
    let g = ap greatest (grow_first p n a b) in
    record { within = omega (arith, t.within); least = omega (arith, t.least, g); most = omega (arith, t.most, g) }
value_there (true ∷ p) x (Node n a b) k h =
    let t = value_there p (x + n) b (root a) h in
    record { within = omega (arith, t.within); least = omega (arith, t.least); most = omega (arith, t.most) }

-- ---- filling there

-- what is owned whole is at or above the half beside it
at_or_above : (p : Point) (e : EventTree) (k : ℕ) → EndsAtLeaf k p e → id_of_way p ≡ One → k ≤ root e
at_or_above [] (Leaf n) k h o = h
at_or_above [] (Node n a b) k h o = absurd h
at_or_above (false ∷ p) e k h o = absurd cc
at_or_above (true ∷ p) e k h o = absurd cc

pub filled_there : (p : Point) (e : EventTree) (k : ℕ) → IsNormalId (id_of_way p) → IsNormal e → EndsAtLeaf k p e → filled (id_of_way p) e ≡ e
filled_there [] (Leaf n) k hi he h = refl
filled_there [] (Node n a b) k hi he h = absurd h
filled_there (turn ∷ p) (Leaf n) k hi he h = absurd h
filled_there (false ∷ p) (Node n a b) k hi he h =
    filled_kept (id_of_way p) Zero n a b hi he (at_or_above p a (root b) h) (λ o. absurd cc) (filled_there p a (root b) hi.0 he.0 h) refl
filled_there (true ∷ p) (Node n a b) k hi he h =
    filled_kept Zero (id_of_way p) n a b hi he (λ o. absurd cc) (at_or_above p b (root a) h) refl (filled_there p b (root a) hi.1 he.1 h)

-- ---- the leaf that was found

pub record IsFound (i : IdTree) (e : EventTree) (leaf : OwnLeaf) : Type 0 where
  pub within : leaf.at < length (preorder e)
  pub fits : leaf.base + leaf.own ≤ greatest e
  pub written_is : set (preorder e) leaf.at (entry (leaf.own + 1) 1) ≡ preorder (grow i e)
  pub least : leaf.base + leaf.own + 1 ≤ greatest (grow i e)
  pub most : greatest (grow i e) ≤ max (greatest e) (leaf.base + leaf.own + 1)

found_by : (i : IdTree) (e : EventTree) (leaf : OwnLeaf) (p : Point) → i ≡ id_of_way p → IsEndOf p e leaf → IsFound i e leaf
found_by i e leaf p alone h =
    let t = leaf_there p e 0 h.ends in
    let v = value_there p 0 e 0 h.ends in
    let at_front : length t.front ≡ leaf.at = t.place ∙ sym h.at_is in
    rw alone (record {
      within = omega (arith, at_front, ap length t.are, length-append t.front (entry (root (part_at p e)) 1 ∷ t.rest));
      fits = omega (arith, v.within, h.base_is, h.own_is);
      written_is = written t.front t.rest (preorder e) (entry (root (part_at p e)) 1) (entry (leaf.own + 1) 1) leaf.at at_front t.are ∙ ap (λ (m : ℕ). t.front ++ entry (m + 1) 1 ∷ t.rest) h.own_is ∙ sym t.grown;
      least = omega (arith, v.least, h.base_is, h.own_is);
      most = omega (arith, v.most, h.base_is, h.own_is);
    })

pub found : (i : IdTree) (e : EventTree) (leaf : OwnLeaf) → IsOwnLeaf i e leaf → IsFound i e leaf
found i e leaf h = found_by i e leaf h.way h.alone h.end_of

pub found_filled : (i : IdTree) (e : EventTree) (leaf : OwnLeaf) → IsNormalId i → IsNormal e → IsOwnLeaf i e leaf → filled i e ≡ e
found_filled i e leaf hi he h = rw h.alone (filled_there h.way e 0 (rw h.alone at hi) he h.end_of.ends)

-- the leaf written over in a copy of the entries makes the grown tree
pub raised_there : (i : IdTree) (e seen : EventTree) (leaf : OwnLeaf) (items entries slice new : List Entry) → IsOwnLeaf i e leaf → seen ≡ e → entries ≡ preorder seen → items ≡ entries → slice ≡ items
    → new ≡ set slice leaf.at (entry (leaf.own + 1) 1) → (leaf.at < length slice) × (refill (length items) items new ≡ preorder (grow i e))
raised_there i e seen leaf items entries slice new own view are copied lent put =
    let h = found i e leaf own in
    let whole : slice ≡ preorder e = lent ∙ copied ∙ are ∙ ap preorder view in (
      omega (arith, h.within, ap length whole),
      refilled items slice new lent (ap length put ∙ length-set slice leaf.at (entry (leaf.own + 1) 1))
          ∙ put
          ∙ ap (λ (es : List Entry). set es leaf.at (entry (leaf.own + 1) 1)) whole
          ∙ h.written_is,
    )

-- ---- what the id owns alone

-- below a leaf nothing fills
none_above : (p : Point) (e : EventTree) → EndsAbove p e → id_of_way p ≢ One
none_above [] e h = absurd h
none_above (false ∷ p) e h = λ o. cc
none_above (true ∷ p) e h = λ o. cc

filled_above : (p : Point) (e : EventTree) → IsNormalId (id_of_way p) → IsNormal e → EndsAbove p e → filled (id_of_way p) e ≡ e
filled_above [] e hi he h = absurd h
filled_above (false ∷ p) (Leaf n) hi he h = refl
filled_above (true ∷ p) (Leaf n) hi he h = refl
filled_above (false ∷ p) (Node n a b) hi he h =
    filled_kept (id_of_way p) Zero n a b hi he (λ o. absurd (none_above p a h o)) (λ o. absurd cc) (filled_above p a hi.0 he.0 h) refl
filled_above (true ∷ p) (Node n a b) hi he h =
    filled_kept Zero (id_of_way p) n a b hi he (λ o. absurd cc) (λ o. absurd (none_above p b h o)) refl (filled_above p b hi.1 he.1 h)

-- and what is not filled there is changed
unfilled_changes : (k : ℕ) (p : Point) (e : EventTree) → IsNormalId (id_of_way p) → IsNormal e → EndsUnfilled k p e → ¬ IsFilled k (id_of_way p) e
unfilled_changes k [] (Leaf n) hi he h f = absurd (omega (arith, h, f.above refl))
unfilled_changes k [] (Node n a b) hi he h f = whole_node k n a b f
unfilled_changes k (turn ∷ p) (Leaf n) hi he h f = absurd h
unfilled_changes k (false ∷ p) (Node n a b) hi he h f = unfilled_changes (root b) p a hi.0 he.0 h (kept_halves (id_of_way p) Zero k n a b hi he f).0
unfilled_changes k (true ∷ p) (Node n a b) hi he h f = unfilled_changes (root a) p b hi.1 he.1 h (kept_halves Zero (id_of_way p) k n a b hi he f).1

pub own_leaf_found : (i : IdTree) (e : EventTree) (f : Found) (leaf : OwnLeaf) → IsOwnPart i e f → f ≡ Own leaf → IsOwnLeaf i e leaf
own_leaf_found i e f leaf h is = let there : IsThere h.way e (Own leaf) = rw is at h.there in record { way = h.way; alone = h.alone; end_of = there }

pub above_found : (i : IdTree) (e : EventTree) (f : Found) → IsNormalId i → IsNormal e → IsOwnPart i e f → f ≡ Above → filled i e ≡ e
above_found i e f hi he h is = let there : IsThere h.way e Above = rw is at h.there in rw h.alone (filled_above h.way e (rw h.alone at hi) he there)

pub unfilled_found : (i : IdTree) (e : EventTree) (f : Found) → IsNormalId i → IsNormal e → IsOwnPart i e f → f ≡ Unfilled → filled i e ≢ e
unfilled_found i e f hi he h is =
    let there : IsThere h.way e Unfilled = rw is at h.there in
    λ same. unfilled_changes 0 h.way e (rw h.alone at hi) he there (record { kept = rw h.alone at same; above = λ o. omega arith })
