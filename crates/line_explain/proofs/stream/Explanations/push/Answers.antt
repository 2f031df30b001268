use Rattle.std.proofs.Common.{◌≤◌, ◌+◌, length, refl, arith}
use Rattle.line_explain.proofs.Streamed.{lines_within, few_more, goes_on}
use Rattle.line_explain.proofs.stream.Explanations.push.Goals as goal

pub all_told-requires : goal.all_told-requires
all_told-requires c =
    let few : length c.in_ok-lines.lines ≤ length c.args.piece.now = lines_within c.args.self.now.feed c.push.new.self c.args.piece.now c.in_ok-lines.lines c.in_ok-lines.ensures.cut in
    omega (arith, few, c.requires.room)

pub overflow_add-self-2 : goal.overflow_add-self-2
overflow_add-self-2 c =
    let few : c.in_ok-text.field-0.number ≤ length c.args.piece.now + 1 =
    few_more c.args.self.now.feed c.push.new.self c.args.piece.now c.in_ok-lines.lines c.too_long-too_long.result _ c.in_ok-text.field-0 c.in_ok-lines.ensures.cut c.in_ok-text.ensures in
    omega (arith, few, c.requires.room)

pub returns-clause-told : goal.returns-clause-told
returns-clause-told c = λ stream told after.
    goes_on stream c.args.piece.now told c.args.self.now _ c.in_ok-lines.lines c.too_long-too_long.result c.in_ok-text.field-0 after c.requires.going c.in_ok-lines.ensures.cut c.too_long-too_long.ensures c.in_ok-text.ensures refl c.both-self.ensures

pub returns-clause-at_most : goal.returns-clause-at_most
returns-clause-at_most c =
    let few : c.in_ok-text.field-0.number ≤ length c.args.piece.now + 1 =
    few_more c.args.self.now.feed c.push.new.self c.args.piece.now c.in_ok-lines.lines c.too_long-too_long.result _ c.in_ok-text.field-0 c.in_ok-lines.ensures.cut c.in_ok-text.ensures in
    omega (arith, few)
