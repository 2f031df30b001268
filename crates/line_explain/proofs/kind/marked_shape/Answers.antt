use Rattle.std.proofs.Common.{refl}
use Rattle.line_explain.proofs.MarkedWords.{no_epoch, shape_behind}
use Rattle.line_explain.proofs.kind.marked_shape.Goals as goal

pub returns-then-not-is_number : goal.returns-then-not-is_number
returns-then-not-is_number c =
    no_epoch c.args.kind.now c.in-Some.word.now c.in-Some.digits.now c.in-Some.ensures.0 c.in-Some.ensures.1 (λ fits. absurd (let no = c.if-not-is_number.ensures.1 fits in cc))

pub returns : goal.returns
returns c = shape_behind c.markable_shape-2.result c.args.kind.now c.in-Some.word.now c.in-Some.digits.now c.in-Some.ensures.0 c.in-Some.ensures.1 (c.if-not-is_number.ensures.0 refl) c.markable_shape-2.ensures
