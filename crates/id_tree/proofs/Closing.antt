-- When a pair of marks is one leaf.
use Rattle.std.proofs.Common.{◌≡◌, ℕ, ◌+◌, ◌-◌, ◌≤◌, List, [], ◌∷◌, ◌++◌, length, take, get_or, refl, sym, ap, ◌∙◌, arith, length-append}
use Rattle.std.proofs.lemmas.List.{get_or-append_right}
use Rattle.std.proofs.Math.Seq.{take-append_seam}
use Rattle.id_tree.specs.IdTree.{IdTree, Zero, One, Pair}
use Rattle.id_tree.specs.Sum.{normal_pair}
use Rattle.id_tree.specs.working.Marks.{preorder}
use Rattle.id_tree.specs.declared.marks.Mark.{Mark}
use Rattle.id_tree.specs.declared.marks.Mark.TheVariants as marks

pub some_marks : (t : IdTree) → 1 ≤ length (preorder t)
some_marks Zero = omega arith
some_marks One = omega arith
some_marks (Pair l r) = omega arith

-- the marks end in a pair that begins at start
pub record EndIn (ms front : List Mark) (start : ℕ) (l r : IdTree) : Type 0 where
  pub begins : length front ≡ start
  pub are : ms ≡ front ++ preorder (Pair l r)

at_end : (ms front : List Mark) (start k : ℕ) (l r : IdTree) → EndIn ms front start l r → get_or ms (start + k) marks.Zero ≡ get_or (preorder (Pair l r)) k marks.Zero
at_end ms front start k l r e =
    let here : start + k - start ≡ k = omega arith in
    ap (λ (xs : List Mark). get_or xs (start + k) marks.Zero) e.are ∙ get_or-append_right front (preorder (Pair l r)) start (start + k) marks.Zero e.begins (omega arith) ∙ ap (λ (i : ℕ). get_or (preorder (Pair l r)) i marks.Zero) here

front_of : (ms front : List Mark) (start : ℕ) (l r : IdTree) → EndIn ms front start l r → take start ms ≡ front
front_of ms front start l r e = rw (e.are, ← e.begins) (take-append_seam front (preorder (Pair l r)))

long : (ms front : List Mark) (start : ℕ) (l r : IdTree) → EndIn ms front start l r → length ms ≡ start + 1 + length (preorder l) + length (preorder r)
long ms front start l r e = omega (arith, ap length e.are, e.begins, length-append front (preorder (Pair l r)), length-append (preorder l) (preorder r))

-- a pair of two equal leaves is one leaf
pub closes : (ms front new : List Mark) (start : ℕ) (l r : IdTree) → EndIn ms front start l r → length ms ≡ start + 3 → get_or ms (start + 1) marks.Zero ≡ get_or ms (start + 2) marks.Zero → new ≡ take start ms ++ get_or ms (start + 1) marks.Zero ∷ [] → new ≡ front ++ preorder (normal_pair l r)
closes ms front new start Zero Zero e n s is = rw (is, front_of _ _ _ _ _ e, at_end _ _ _ 1 _ _ e) refl
closes ms front new start One One e n s is = rw (is, front_of _ _ _ _ _ e, at_end _ _ _ 1 _ _ e) refl
closes ms front new start Zero One e n s is = absurd (let same : marks.Zero ≡ marks.One = sym (at_end _ _ _ 1 _ _ e) ∙ s ∙ at_end _ _ _ 2 _ _ e in cc)
closes ms front new start One Zero e n s is = absurd (let same : marks.One ≡ marks.Zero = sym (at_end _ _ _ 1 _ _ e) ∙ s ∙ at_end _ _ _ 2 _ _ e in cc)
closes ms front new start Zero (Pair c d) e n s is = absurd (omega (arith, long _ _ _ _ _ e, some_marks c, some_marks d, length-append (preorder c) (preorder d)))
closes ms front new start One (Pair c d) e n s is = absurd (omega (arith, long _ _ _ _ _ e, some_marks c, some_marks d, length-append (preorder c) (preorder d)))
closes ms front new start (Pair a b) r e n s is = absurd (omega (arith, long _ _ _ _ _ e, some_marks a, some_marks b, some_marks r, length-append (preorder a) (preorder b)))
