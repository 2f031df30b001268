use Rattle.std.proofs.Common.{◌∙◌, sym, arith}
use Rattle.id_tree.proofs.Covering.{none_right, both_pairs}
use Rattle.id_tree.proofs.marks.cover.Goals as goal

pub loop-right-preserved-in-Pair-this : goal.loop-right-preserved-in-Pair-this
loop-right-preserved-in-Pair-this c =
    both_pairs c.loop-right.left.now c.loop-right.right.now _ _ c.split_first_mark-one.ensures.behind (sym c.in-Pair-Pair.is-0 ∙ c.split_first_mark-one.ensures.first) c.split_first_mark-other.ensures.behind (sym c.in-Pair-Pair.is-1 ∙ c.split_first_mark-other.ensures.first) ∙ c.loop-right.invariant

pub returns : goal.returns
returns c = none_right c.loop-right.left.now c.loop-right.right.now (omega arith) ∙ c.loop-right.invariant
