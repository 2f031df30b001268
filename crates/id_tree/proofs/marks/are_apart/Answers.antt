use Rattle.std.proofs.Common.{◌∙◌, arith, inl, inr}
use Rattle.id_tree.proofs.Apart.{none_left, none_right, both_pairs, shared}
use Rattle.id_tree.proofs.marks.are_apart.Goals as goal

pub loop-left-smaller-in-Zero-1 : goal.loop-left-smaller-in-Zero-1
loop-left-smaller-in-Zero-1 c = omega (arith, c.split_first_tree.ensures.behind.shorter)

pub loop-left-smaller-in-Pair-this : goal.loop-left-smaller-in-Pair-this
loop-left-smaller-in-Pair-this c = omega arith

pub returns-in_default : goal.returns-in_default
returns-in_default c = shared c.loop-left.left.now c.loop-left.right.now c.loop-left-test.true c.if-right-gt0.true c.in_default.not-Zero-0 c.in_default.not-Zero-1 (inr c.in_default.is-1) ∙ c.loop-left.invariant

pub returns-in_default-2 : goal.returns-in_default-2
returns-in_default-2 c = shared c.loop-left.left.now c.loop-left.right.now c.loop-left-test.true c.if-right-gt0.true c.in_default.not-Zero-0 c.in_default.not-Zero-1 (inl c.in_default.is-0) ∙ c.loop-left.invariant

pub loop-left-smaller : goal.loop-left-smaller
loop-left-smaller c = omega (arith, c.split_first_tree-in_default-Zero.ensures.behind.shorter)

pub returns-else-right-gt0 : goal.returns-else-right-gt0
returns-else-right-gt0 c = none_right c.loop-left.left.now c.loop-left.right.now (omega arith) ∙ c.loop-left.invariant

pub returns-after-loop-left : goal.returns-after-loop-left
returns-after-loop-left c = none_left c.loop-left.left.now c.loop-left.right.now (omega arith) ∙ c.loop-left.invariant

pub loop-left-preserved-in-Pair-this : goal.loop-left-preserved-in-Pair-this
loop-left-preserved-in-Pair-this c =
    both_pairs c.loop-left.left.now c.loop-left.right.now _ _ c.split_at.ensures.back c.loop-left-test.true c.in-Pair-Pair.is-0 c.split_at-in-loop-left.ensures.back c.if-right-gt0.true c.in-Pair-Pair.is-1 ∙ c.loop-left.invariant
