use Rattle.record_show.proofs.Unescaped.{names_stand}
use Rattle.record_show.proofs.laws.names_need_no_escapes.Goals as goal

pub returns : goal.returns
returns c = names_stand
