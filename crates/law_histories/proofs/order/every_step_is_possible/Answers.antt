-- The example is shown in `Example`.
use Rattle.law_histories.proofs.Example.{every_step_is_lawful}
use Rattle.law_histories.proofs.order.every_step_is_possible.Goals as goal

pub returns : goal.returns
returns c = every_step_is_lawful
