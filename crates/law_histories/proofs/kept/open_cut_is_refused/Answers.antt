-- The law is proved in `OpenCut`.
use Rattle.law_histories.proofs.OpenCut.{open_cut_is_refused}
use Rattle.law_histories.proofs.kept.open_cut_is_refused.Goals as goal

pub returns : goal.returns
returns c = open_cut_is_refused
