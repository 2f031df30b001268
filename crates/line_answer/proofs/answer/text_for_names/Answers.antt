-- `text_for_names`: the failed set is that of the names.
use Rattle.std.proofs.lemmas.Option.{IfSome_then}
use Rattle.line_answer.proofs.answer.text_for_names.Goals as goal

pub returns-in-Ok : goal.returns-in-Ok
returns-in-Ok c = IfSome_then c.text_for_set.result c.text_for_set.ensures (λ text for. for c.args.names.now c.in-Ok.ensures)
