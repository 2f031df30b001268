-- The rules are proved in `Rules`.
use Rattle.law_histories.proofs.Rules.{rules_are_the_law}
use Rattle.law_histories.proofs.order.rules_are_the_law.Goals as goal

pub returns : goal.returns
returns c = rules_are_the_law
