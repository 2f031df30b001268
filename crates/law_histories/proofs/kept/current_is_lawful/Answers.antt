-- The law is proved in `Current`.
use Rattle.law_histories.proofs.Current.{current_is_lawful}
use Rattle.law_histories.proofs.kept.current_is_lawful.Goals as goal

pub returns : goal.returns
returns c = current_is_lawful
