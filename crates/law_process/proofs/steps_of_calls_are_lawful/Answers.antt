-- The law is proved in `Calling`.
use Rattle.law_process.proofs.Calling.{steps_of_calls_are_lawful}
use Rattle.law_process.proofs.steps_of_calls_are_lawful.Goals as goal

pub returns : goal.returns
returns c = steps_of_calls_are_lawful
