-- `text_for_all`: the text of the certificate of the garbage line.
use Rattle.std.proofs.lemmas.Option.{IfSome_then}
use Rattle.chains.specs.Held.{held_of}
use Rattle.line_answer.proofs.Texts.{text_for_known}
use Rattle.line_answer.proofs.answer.text_for_all.Goals as goal

pub returns-in-Ok : goal.returns-in-Ok
returns-in-Ok c = IfSome_then c.written.result c.written.ensures (λ text is. text_for_known (held_of c.args.chains.now) text c.in-Ok.certificate c.in-Ok.ensures is)
