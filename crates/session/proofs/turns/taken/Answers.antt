-- `taken`: the line that was found answers the question.
use Rattle.std.proofs.Common.{◌≡◌, ℕ, List, subst}
use Rattle.report_line.specs.declared.reply.Reply.TheVariants.{Line}
use Rattle.chains.specs.Held.{held_of}
use Rattle.line_answer.specs.Questions.{IsChosenFor}
use Rattle.line_answer.proofs.Texts.{shows_taken}
use Rattle.session.proofs.turns.taken.Goals as goal

same_text : (s t : List ℕ) → Line s ≡ Line t → s ≡ t
same_text s t e = cc

pub returns-in-Some-clause-shown : goal.returns-in-Some-clause-shown
returns-in-Some-clause-shown c = shows_taken (held_of c.args.chains.now) c.args.call.now c.in-Some.text c.args.front c.in-Some.ensures.line

pub returns-in-Some-clause-chosen : goal.returns-in-Some-clause-chosen
returns-in-Some-clause-chosen c = λ other is. subst (IsChosenFor (held_of c.args.chains.now) c.args.call.now) (same_text c.in-Some.text other is) c.in-Some.ensures.chosen
