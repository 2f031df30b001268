-- The law is proved in `Carried`.
use Rattle.law_histories.proofs.Carried.{position_is_newest}
use Rattle.law_histories.proofs.kept.position_is_newest.Goals as goal

pub returns : goal.returns
returns c = position_is_newest
