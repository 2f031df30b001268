-- The law is proved in `Keeping`.
use Rattle.law_histories.proofs.Keeping.{kept_is_lawful}
use Rattle.law_histories.proofs.kept.kept_is_lawful.Goals as goal

pub returns : goal.returns
returns c = kept_is_lawful
