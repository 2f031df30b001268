-- When a test of marks tells whether two lists of them are equal.
use Rattle.std.proofs.Common.{◌≡◌, ◌↔◌, Bool, true, false, List, refl}
use Rattle.std.specs.Prelude.{IsTrue}
use Rattle.std.specs.Cmp.Lexicographic.{pointwise, pointwise_decides}
use Rattle.std.proofs.lemmas.Bool.{both_ways}
use Rattle.id_tree.specs.declared.marks.Mark.{Mark}
use Rattle.id_tree.specs.declared.marks.Mark.TheVariants as marks

-- a mark is the same as itself, and as no other
pub record Tells (E : Mark → Mark → Bool) : Type 0 where
  pub zero : E marks.Zero marks.Zero ≡ true
  pub one : E marks.One marks.One ≡ true
  pub pair : E marks.Pair marks.Pair ≡ true
  pub zero_one : E marks.Zero marks.One ≡ false
  pub zero_pair : E marks.Zero marks.Pair ≡ false
  pub one_zero : E marks.One marks.Zero ≡ false
  pub one_pair : E marks.One marks.Pair ≡ false
  pub pair_zero : E marks.Pair marks.Zero ≡ false
  pub pair_one : E marks.Pair marks.One ≡ false

told : (E : Mark → Mark → Bool) (x y : Mark) → Tells E → E x y ≡ true → x ≡ y
told E marks.Zero marks.Zero t e = refl
told E marks.Zero marks.One t e = absurd (both_ways _ t.zero_one e)
told E marks.Zero marks.Pair t e = absurd (both_ways _ t.zero_pair e)
told E marks.One marks.Zero t e = absurd (both_ways _ t.one_zero e)
told E marks.One marks.One t e = refl
told E marks.One marks.Pair t e = absurd (both_ways _ t.one_pair e)
told E marks.Pair marks.Zero t e = absurd (both_ways _ t.pair_zero e)
told E marks.Pair marks.One t e = absurd (both_ways _ t.pair_one e)
told E marks.Pair marks.Pair t e = refl

itself : (E : Mark → Mark → Bool) (x : Mark) → Tells E → E x x ≡ true
itself E marks.Zero t = t.zero
itself E marks.One t = t.one
itself E marks.Pair t = t.pair

pub equal_marks : (E : Mark → Mark → Bool) (b : Bool) (xs ys : List Mark) → Tells E → b ≡ pointwise E xs ys → IsTrue b ↔ (xs ≡ ys)
equal_marks E b xs ys t e = rw e (pointwise_decides (λ x y. (told E x y t, λ same. rw (← same) (itself E x t))) xs ys)
