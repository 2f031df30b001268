-- The law is proved in `Returns`.
use Rattle.law_histories.proofs.Returns.{epochs_tell_returns}
use Rattle.law_histories.proofs.kept.epochs_tell_returns.Goals as goal

pub returns : goal.returns
returns c = epochs_tell_returns
