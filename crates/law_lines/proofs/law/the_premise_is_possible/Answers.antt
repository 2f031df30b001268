-- The example is shown in `Accepted`.
use Rattle.law_lines.proofs.Accepted.{example_is_premise}
use Rattle.law_lines.proofs.law.the_premise_is_possible.Goals as goal

pub returns : goal.returns
returns c = example_is_premise
