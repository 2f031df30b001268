-- `answer_for`: each question has its text.
use Rattle.std.proofs.lemmas.Option.{IfSome_then}
use Rattle.chains.specs.Held.{held_of}
use Rattle.line_answer.proofs.Texts.{answers_line, answers_garbage}
use Rattle.line_answer.proofs.answer.answer_for.Goals as goal

pub returns-in-Line : goal.returns-in-Line
returns-in-Line c = IfSome_then c.text_for_names.result c.text_for_names.ensures (λ text for. rw c.in-Line.is (answers_line (held_of c.args.chains.now) _ text for))

pub returns-in-Garbage : goal.returns-in-Garbage
returns-in-Garbage c = IfSome_then c.text_for_all.result c.text_for_all.ensures (λ text for. rw c.in-Garbage.is (answers_garbage (held_of c.args.chains.now) text for))
