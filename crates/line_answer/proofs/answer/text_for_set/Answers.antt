-- `text_for_set`: the text of the certificate of the failed set.
use Rattle.std.proofs.lemmas.Option.{IfSome_then}
use Rattle.chains.specs.Held.{held_of}
use Rattle.line_answer.proofs.Texts.{text_for_failed}
use Rattle.line_answer.proofs.answer.text_for_set.Goals as goal

pub returns-in-Ok : goal.returns-in-Ok
returns-in-Ok c = IfSome_then c.written.result c.written.ensures (λ text is names set. text_for_failed (held_of c.args.chains.now) names c.args.failed.now text c.in-Ok.certificate c.in-Ok.ensures is set)
