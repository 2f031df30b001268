use Rattle.recline.proofs.Watched.{told_then}
use Rattle.recline.proofs.watching.look_at_door.Goals as goal

pub returns : goal.returns
returns g c = told_then c.tell_once.ensures c.tell_where.ensures
