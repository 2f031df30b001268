use Rattle.line_explain.proofs.Walks.{wrong_now}
use Rattle.line_explain.proofs.fields.+wrong_field.Goals as goal

pub returns-in-Some-2 : goal.returns-in-Some-2
returns-in-Some-2 t c =
    let fit = rw c.in-Some-2.is at c.in_ok-why-in-len1-up.ensures in
    wrong_now c.args.wanted.now _ c.args.words.now c.next.new.self c.in-Some.word.now c.args.number c.in-Some-2.why c.told.result c.in-len1-up.len_at_least c.in-Some.ensures.word fit c.told.ensures
