use Rattle.session.proofs.OverAnswers.{what_is_accepted_was_answered, both_headlines_are_one}
use Rattle.session.proofs.laws.each_line_is_right_over_what_was_answered.Goals as goal

pub returns-clause-accepted : goal.returns-clause-accepted
returns-clause-accepted c = what_is_accepted_was_answered

pub returns-clause-equivalent : goal.returns-clause-equivalent
returns-clause-equivalent c = both_headlines_are_one
