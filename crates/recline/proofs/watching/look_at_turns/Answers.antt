use Rattle.recline.proofs.Watched.{told_then}
use Rattle.recline.proofs.watching.look_at_turns.Goals as goal

pub returns : goal.returns
returns g c = told_then (told_then (told_then c.tell_once.ensures c.tell_once-2.ensures) c.tell_once-3.ensures) c.tell_once-4.ensures
