-- The law is proved in `Turning`.
use Rattle.law_process.proofs.Turning.{steps_of_calls_obey}
use Rattle.law_process.proofs.steps_of_calls_obey.Goals as goal

pub returns : goal.returns
returns c = steps_of_calls_obey
