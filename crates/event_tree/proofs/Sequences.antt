-- Several trees one after the other.
use Rattle.std.proofs.Common.{◌≡◌, ℕ, ◌≤◌, ◌<◌, List, [], ◌∷◌, ◌++◌, length, take, drop, get_or, refl, sym, ap, ◌∙◌, arith, append_assoc, append-nil, length-append}
use Rattle.std.proofs.Math.Seq.{take-append_seam, drop-append_seam}
use Rattle.event_tree.specs.EventTree.{EventTree, Leaf, Node}
use Rattle.event_tree.specs.Halves.{root}
use Rattle.event_tree.specs.Size.{size}
use Rattle.event_tree.specs.working.Entries.{entry, blank, preorder, first, later, trees_of}
use Rattle.event_tree.specs.working.Sequences.{preorders, ArePreorders, halved}
use Rattle.event_tree.specs.declared.layout.entries.Entry.{Entry}
use Rattle.event_tree.proofs.Preorder.{length_preorder, trees-preorder, first_entry, some_size}

pub trees-preorders : (ts : List EventTree) → trees_of (preorders ts) ≡ ts
trees-preorders [] = refl
trees-preorders (t ∷ ts) = trees-preorder t (preorders ts) ∙ ap (λ us. t ∷ us) (trees-preorders ts)

pub are_preorders : (es : List Entry) (ts : List EventTree) → es ≡ preorders ts → ArePreorders es × (trees_of es ≡ ts)
are_preorders es ts e =
    let is : trees_of es ≡ ts = ap trees_of e ∙ trees-preorders ts in
    (record { are = e ∙ ap preorders (sym is) }, is)

-- one tree alone
pub alone : (es : List Entry) (t : EventTree) → es ≡ preorder t → ArePreorders es × (trees_of es ≡ t ∷ [])
alone es t e = are_preorders es (t ∷ []) (e ∙ sym (append-nil (preorder t)))

-- what stands in front, with some trees
pub record Fronts (es : List Entry) (ts : List EventTree) : Type 0 where
  pub are : es ≡ preorder (first ts) ++ preorders (later ts)

pub fronts : (es : List Entry) (ts : List EventTree) → es ≡ preorders ts → 0 < length ts → Fronts es ts
fronts es [] e some = absurd (omega (arith, some))
fronts es (t ∷ ts) e some = record { are = e }

pub first_entry_is : (es : List Entry) (ts : List EventTree) → Fronts es ts → get_or es 0 blank ≡ entry (root (first ts)) (size (first ts))
first_entry_is es ts h = ap (λ (xs : List Entry). get_or xs 0 blank) h.are ∙ first_entry (first ts) (preorders (later ts))

pub some_entry : (es : List Entry) (ts : List EventTree) → Fronts es ts → 0 < length es
some_entry es ts h = omega (arith, ap length h.are, length-append (preorder (first ts)) (preorders (later ts)), length_preorder (first ts), some_size (first ts))

pub first_long : (es : List Entry) (ts : List EventTree) → Fronts es ts → (get_or es 0 blank).size ≡ length (preorder (first ts))
first_long es ts h = ap (λ (x : Entry). x.size) (first_entry_is es ts h) ∙ sym (length_preorder (first ts))

pub first_within : (es : List Entry) (ts : List EventTree) → Fronts es ts → (get_or es 0 blank).size ≤ length es
first_within es ts h = omega (arith, first_long es ts h, ap length h.are, length-append (preorder (first ts)) (preorders (later ts)))

pub first_taken : (es part : List Entry) (ts : List EventTree) → Fronts es ts → part ≡ take (get_or es 0 blank).size es → part ≡ preorder (first ts)
first_taken es part ts h e = e ∙ ap (λ (n : ℕ). take n es) (first_long es ts h) ∙ ap (take (length (preorder (first ts)))) h.are ∙ take-append_seam (preorder (first ts)) (preorders (later ts))

pub later_left : (es part : List Entry) (ts : List EventTree) → Fronts es ts → part ≡ drop (get_or es 0 blank).size es → part ≡ preorders (later ts)
later_left es part ts h e = e ∙ ap (λ (n : ℕ). drop n es) (first_long es ts h) ∙ ap (drop (length (preorder (first ts)))) h.are ∙ drop-append_seam (preorder (first ts)) (preorders (later ts))

pub halves_left : (es part : List Entry) (ts : List EventTree) → es ≡ preorders ts → 1 < size (first ts) → part ≡ drop 1 es → part ≡ preorders (halved ts)
halves_left es part [] e big d = absurd (omega (arith, big))
halves_left es part (Leaf n ∷ ts) e big d = absurd (omega (arith, big))
halves_left es part (Node n a b ∷ ts) e big d = d ∙ ap (drop 1) e ∙ append_assoc (preorder a) (preorder b) (preorders ts)
