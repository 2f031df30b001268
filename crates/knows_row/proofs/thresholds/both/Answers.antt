use Rattle.std.proofs.Common.{arith}
use Rattle.std.proofs.lemmas.Result.{IfOk-weaker}
use Rattle.knows_row.proofs.Thresholding.{two_more}
use Rattle.knows_row.proofs.thresholds.both.Goals as goal

pub overflow_add-i : goal.overflow_add-i
overflow_add-i c = omega (arith, c.requires, c.len-len.ensures)

pub returns-then-i-len : goal.returns-then-i-len
returns-then-i-len c = IfOk-weaker c.meet.result _ _ (λ t met v.
    two_more v t c.args.row.now c.args.i c.tree.result.now c.tree-then-i-len.result.now c.tree.ensures c.tree-then-i-len.ensures (omega (arith, c.if-i-len.true, c.len-len.ensures))
    (c.a_meet_bounds_what_both_bound.ensures.exceeding v c.tree.result.now c.tree-then-i-len.result.now t met)) c.meet.ensures
