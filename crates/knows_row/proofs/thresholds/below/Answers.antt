use Rattle.std.proofs.Common.{sym, subst, refl, arith}
use Rattle.std.proofs.lemmas.Bool.{true≢false}
use Rattle.knows_row.specs.Thresholds.{Passes}
use Rattle.knows_row.proofs.Thresholding.{left_only, left_first, right_first}
use Rattle.knows_row.proofs.thresholds.below.Goals as goal

pub overflow_add-left : goal.overflow_add-left
overflow_add-left c = omega (arith, c.requires, c.len-len.ensures)

pub returns-then-left-len : goal.returns-then-left-len
returns-then-left-len c = λ half h f. left_only c.args.events.now c.args.row.now half h c.args.above f (λ lt. omega (arith, lt, c.if-left-len.true, c.len-len.ensures))

pub returns-then-leq : goal.returns-then-leq
returns-then-leq c = λ half h f. right_first c.args.events.now c.args.row.now half h c.args.above f
    (λ passes. true≢false (c.if-leq.ensures.exceeding.1 (subst (Passes c.args.events.now) (sym c.tree.ensures) passes)))

pub returns-else-leq : goal.returns-else-leq
returns-else-leq c = λ half h f. left_first c.args.events.now c.args.row.now half h c.args.above f
    (subst (Passes c.args.events.now) c.tree.ensures (c.if-leq.ensures.exceeding.0 refl))
