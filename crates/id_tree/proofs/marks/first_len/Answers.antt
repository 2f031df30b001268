use Rattle.std.proofs.Common.{arith}
use Rattle.id_tree.specs.working.Marks.{trees_of}
use Rattle.id_tree.proofs.Preorder.{is_later, at_pair, at_leaf, at_end}
use Rattle.id_tree.proofs.marks.first_len.Goals as goal
use Rattle.id_tree.proofs.marks.first_len.Goals.{in-Pair, in-Zero+else-pending-eq1}

pub loop-index-init : goal.loop-index-init
loop-index-init c = (omega arith, omega arith, is_later (trees_of c.args.marks.now))

pub returns-then-pending-eq1-clause-behind : goal.returns-then-pending-eq1-clause-behind
returns-then-pending-eq1-clause-behind c = at_leaf c.loop-index.pending 0 c.loop-index.index _ _ c.loop-index-test.true (omega arith) c.in-Zero.is c.loop-index.invariant.2

pub loop-index-preserved : goal.loop-index-preserved
loop-index-preserved c =
    let n = c.loop-index.pending in
    let k = c.match-mark.pending in
    let i = c.loop-index.index in
    let inv = c.loop-index.invariant in
    elim c.match-mark.branch [
      | in-Pair w ↦ (omega arith, omega arith, at_pair n k i _ _ c.loop-index-test.true inv.0 w.pending-is w.in-Pair.is inv.2)
      | in-Zero+else-pending-eq1 w ↦ (omega arith, omega arith, at_leaf n k i _ _ c.loop-index-test.true (omega arith) w.in-Zero.is inv.2)
    ]

pub returns-clause-behind : goal.returns-clause-behind
returns-clause-behind c = at_end c.loop-index.pending c.loop-index.index _ _ c.loop-index-test.false c.loop-index.invariant.2
