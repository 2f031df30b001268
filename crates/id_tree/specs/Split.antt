-- Splitting an id in two (interval tree clocks 2008).
use Rattle.std.specs.Prelude.{ℕ, max}
use Rattle.id_tree.specs.IdTree.{IdTree, Zero, One, Pair}
use Rattle.id_tree.specs.NormalForm.{depth}
use Rattle.id_tree.specs.Points.{OwnsSome, AreDisjoint, AreTogether}

-- where both halves own something the left one, and otherwise the left part of the half that does
abbrev pub left_part : IdTree → IdTree
left_part Zero = Zero
left_part One = Pair One Zero
left_part (Pair Zero r) = Pair Zero (left_part r)
left_part (Pair l Zero) = Pair (left_part l) Zero
left_part (Pair l r) = Pair l Zero

-- where both halves own something the right one, and otherwise the right part of the half that does
abbrev pub right_part : IdTree → IdTree
right_part Zero = Zero
right_part One = Pair Zero One
right_part (Pair Zero r) = Pair Zero (right_part r)
right_part (Pair l Zero) = Pair (right_part l) Zero
right_part (Pair l r) = Pair Zero r

-- how deep the deeper part is
abbrev pub parts_depth : IdTree → ℕ
parts_depth i = max (depth (left_part i)) (depth (right_part i))

-- l and r each own something, no point both, and together just what i owns
pub record IsSplit (i l r : IdTree) : Type 0 where
  pub left : OwnsSome l
  pub right : OwnsSome r
  pub disjoint : AreDisjoint l r
  pub together : AreTogether l r i
