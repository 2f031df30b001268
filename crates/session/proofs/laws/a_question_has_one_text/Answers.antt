use Rattle.session.proofs.ChosenTexts.{one_text}
use Rattle.session.proofs.laws.a_question_has_one_text.Goals as goal

pub returns : goal.returns
returns c = one_text
