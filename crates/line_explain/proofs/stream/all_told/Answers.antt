use Rattle.std.proofs.Common.{◌≡◌, refl, length, arith}
use Rattle.line_explain.proofs.Streamed.{said_behind, said_number}
use Rattle.line_explain.proofs.stream.all_told.Goals as goal

pub overflow_add-first : goal.overflow_add-first
overflow_add-first c =
    let number : c.in_ok-text.field-0.number ≡ length c.args.lines.now = said_number c.args.lines.now c.args.first c.in_ok-text.field-0 c.in_ok-text.ensures in
    omega (arith, number)

pub overflow_add-result : goal.overflow_add-result
overflow_add-result c =
    let number : c.in_ok-text.field-0.number ≡ length c.args.lines.now = said_number c.args.lines.now c.args.first c.in_ok-text.field-0 c.in_ok-text.ensures in
    omega (arith, number)

pub returns : goal.returns
returns c = said_behind c.args.lines.now c.args.too_long c.args.first c.in_ok-text.field-0 _ c.if-not-too_long.false c.in_ok-text.ensures c.in_ok-calls.ensures.text refl c.in_ok-calls.ensures.call
