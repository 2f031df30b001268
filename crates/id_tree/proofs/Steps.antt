-- What each byte of a spelling does to what is shown.
use Rattle.std.proofs.Common.{◌≡◌, ℕ, List, [], ◌∷◌, ◌++◌, length, Some, None, Option, refl, sym, ap, ◌∙◌, arith, length-append}
use Rattle.std.specs.Prelude.{reverse}
use Rattle.std.proofs.lemmas.List.{reverse-append, append_cancel_right}
use Rattle.id_tree.specs.IdTree.{IdTree, Zero, One, Pair}
use Rattle.id_tree.specs.working.Reading.{State, ShowsState, StepsTo, halves_of_pairs, part_of, pair_of, right_of, left_of, step_of}
use Rattle.id_tree.specs.declared.reading.first_fault.Part.{Part}
use Rattle.id_tree.specs.declared.reading.first_fault.Part.TheVariants as parts
use Rattle.id_tree.specs.declared.reading.first_fault.Half.{Half}
use Rattle.id_tree.specs.declared.reading.first_fault.Half.TheVariants as halves

-- a state of these parts
abbrev at : List (Option IdTree) → Option IdTree → State
at ps last = record { open_pairs = ps; last = last }

none_is : {X : Type 0} (o : Option X) (x : X) → o ≡ None → o ≡ Some x → ⊥
none_is o x e f = cc

same_some : (o : Option Part) (p q : Part) → o ≡ Some p → o ≡ Some q → p ≡ q
same_some o p q e f = cc

leaf_at : (t : IdTree) (byte : ℕ) (ps : List (Option IdTree)) (last : Option IdTree) (hs : List Half) (seen : Option Part) → ((qs : List (Option IdTree)) → step_of (at qs None) byte ≡ Some (at qs (Some t))) → seen ≡ None → ShowsState hs seen (at ps last)
    → StepsTo (at ps last) byte hs (Some (part_of t))
leaf_at t byte ps None hs seen is none s = record { next = at ps (Some t); steps = is ps; shows = record { halves = s.halves; last_is = refl } }
leaf_at t byte ps (Some u) hs seen is none s = absurd (none_is seen (part_of u) none s.last_is)

pub reads_zero : (byte : ℕ) (hs : List Half) (seen : Option Part) → byte ≡ 48 → seen ≡ None → (s : State) → ShowsState hs seen s → StepsTo s byte hs (Some parts.Zero)
reads_zero byte hs seen b none s h = leaf_at Zero byte s.open_pairs s.last hs seen (λ qs. rw b refl) none h

pub reads_one : (byte : ℕ) (hs : List Half) (seen : Option Part) → byte ≡ 49 → seen ≡ None → (s : State) → ShowsState hs seen s → StepsTo s byte hs (Some parts.One)
reads_one byte hs seen b none s h = leaf_at One byte s.open_pairs s.last hs seen (λ qs. rw b refl) none h

open_at : (byte : ℕ) (ps : List (Option IdTree)) (last : Option IdTree) (hs ks : List Half) (seen : Option Part) → byte ≡ 40 → seen ≡ None → ks ≡ hs ++ halves.Left ∷ [] → ShowsState hs seen (at ps last) → StepsTo (at ps last) byte ks None
open_at byte ps None hs ks seen b none f s = record {
  next = at (None ∷ ps) None;
  steps = rw b refl;
  shows = record { halves = f ∙ ap (λ (xs : List Half). xs ++ halves.Left ∷ []) s.halves; last_is = refl };
}
open_at byte ps (Some u) hs ks seen b none f s = absurd (none_is seen (part_of u) none s.last_is)

pub reads_open : (byte : ℕ) (hs ks : List Half) (seen : Option Part) → byte ≡ 40 → seen ≡ None → ks ≡ hs ++ halves.Left ∷ [] → (s : State) → ShowsState hs seen s → StepsTo s byte ks None
reads_open byte hs ks seen b none f s h = open_at byte s.open_pairs s.last hs ks seen b none f h

pub ended_by : (hs mid : List Half) (x y : Half) → x ≡ y → hs ≡ mid ++ x ∷ [] → hs ≡ mid ++ y ∷ []
ended_by hs mid x y e h = h ∙ ap (λ (z : Half). mid ++ z ∷ []) e

-- lists that end in one element each
head_same : (x y : Half) (xs ys : List Half) → x ∷ xs ≡ y ∷ ys → x ≡ y
head_same x y xs ys e = cc

last_same : (x y : Half) (xs ys : List Half) → xs ++ x ∷ [] ≡ ys ++ y ∷ [] → x ≡ y
last_same x y xs ys e = head_same x y _ _ (sym (reverse-append xs (x ∷ [])) ∙ ap reverse e ∙ reverse-append ys (y ∷ []))

front_same : (x : Half) (xs ys : List Half) → xs ++ x ∷ [] ≡ ys ++ x ∷ [] → xs ≡ ys
front_same x xs ys e = append_cancel_right xs ys (x ∷ []) e

known_left : (p : Part) → left_of (right_of p) ≡ Some p
known_left parts.Zero = refl
known_left parts.One = refl
known_left (parts.Pair d) = refl
known_left parts.NotNormal = refl

left_is : (x : Half) (p q : Part) → left_of x ≡ Some p → x ≡ right_of q → p ≡ q
left_is x p q e f = same_some (left_of x) p q e (ap left_of f ∙ known_left q)

not_left : (x : Half) (q : Part) → left_of x ≡ None → x ≡ right_of q → ⊥
not_left x q e f = none_is (left_of x) q e (ap left_of f ∙ known_left q)

comma_at : (byte : ℕ) (ps : List (Option IdTree)) (last : Option IdTree) (hs mid ks : List Half) (seen : Option Part) (part : Part) → byte ≡ 44 → seen ≡ Some part → hs ≡ mid ++ halves.Left ∷ [] → ks ≡ mid ++ right_of part ∷ [] → ShowsState hs seen (at ps last)
    → StepsTo (at ps last) byte ks None
comma_at byte ps None hs mid ks seen part b some e f s = absurd (none_is seen part s.last_is some)
comma_at byte [] (Some v) hs mid ks seen part b some e f s = absurd (omega (arith, ap length e, ap length s.halves, length-append mid (halves.Left ∷ [])))
comma_at byte (None ∷ ps) (Some v) hs mid ks seen part b some e f s =
    let same : mid ≡ halves_of_pairs ps = front_same halves.Left mid _ (sym e ∙ s.halves) in
    let is : part ≡ part_of v = same_some seen part (part_of v) some s.last_is in
    record {
      next = at (Some v ∷ ps) None;
      steps = rw b refl;
      shows = record {
        halves = f ∙ ap (λ (xs : List Half). xs ++ right_of part ∷ []) same ∙ ap (λ (p : Part). halves_of_pairs ps ++ right_of p ∷ []) is;
        last_is = refl;
      };
    }
comma_at byte (Some l ∷ ps) (Some v) hs mid ks seen part b some e f s = absurd (not_left halves.Left (part_of l) refl (last_same halves.Left (right_of (part_of l)) mid _ (sym e ∙ s.halves)))

pub reads_comma : (byte : ℕ) (hs mid ks : List Half) (seen : Option Part) (part : Part) → byte ≡ 44 → seen ≡ Some part → hs ≡ mid ++ halves.Left ∷ [] → ks ≡ mid ++ right_of part ∷ [] → (s : State) → ShowsState hs seen s → StepsTo s byte ks None
reads_comma byte hs mid ks seen part b some e f s h = comma_at byte s.open_pairs s.last hs mid ks seen part b some e f h

close_at : (byte : ℕ) (ps : List (Option IdTree)) (last : Option IdTree) (hs mid : List Half) (half : Half) (seen : Option Part) (left part : Part) → byte ≡ 41 → seen ≡ Some part → hs ≡ mid ++ half ∷ [] → left_of half ≡ Some left → ShowsState hs seen (at ps last)
    → StepsTo (at ps last) byte mid (Some (pair_of left part))
close_at byte ps None hs mid half seen left part b some e k s = absurd (none_is seen part s.last_is some)
close_at byte [] (Some v) hs mid half seen left part b some e k s = absurd (omega (arith, ap length e, ap length s.halves, length-append mid (half ∷ [])))
close_at byte (None ∷ ps) (Some v) hs mid half seen left part b some e k s = absurd (none_is (left_of half) left (ap left_of (last_same half halves.Left mid _ (sym e ∙ s.halves))) k)
close_at byte (Some l ∷ ps) (Some v) hs mid half seen left part b some e k s =
    let ends : half ≡ right_of (part_of l) = last_same half (right_of (part_of l)) mid _ (sym e ∙ s.halves) in
    let one : left ≡ part_of l = left_is half left (part_of l) k ends in
    let other : part ≡ part_of v = same_some seen part (part_of v) some s.last_is in
    record {
      next = at ps (Some (Pair l v));
      steps = rw b refl;
      shows = record {
        halves = front_same (right_of (part_of l)) mid _ (sym (ended_by hs mid half (right_of (part_of l)) ends e) ∙ s.halves);
        last_is = ap (λ (p : Part). Some (pair_of p part)) one ∙ ap (λ (p : Part). Some (pair_of (part_of l) p)) other;
      };
    }

pub reads_close : (byte : ℕ) (hs mid : List Half) (half : Half) (seen : Option Part) (left part : Part) → byte ≡ 41 → seen ≡ Some part → hs ≡ mid ++ half ∷ [] → left_of half ≡ Some left → (s : State) → ShowsState hs seen s → StepsTo s byte mid (Some (pair_of left part))
reads_close byte hs mid half seen left part b some e k s h = close_at byte s.open_pairs s.last hs mid half seen left part b some e k h
