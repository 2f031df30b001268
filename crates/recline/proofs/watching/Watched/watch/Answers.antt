use Rattle.recline.proofs.Watched.{told_then}
use Rattle.recline.proofs.watching.Watched.watch.Goals as goal

pub returns-in_default : goal.returns-in_default
returns-in_default g c = told_then (told_then c.loop.invariant c.look_at_door.ensures) c.look_at_turns.ensures

pub loop-preserved : goal.loop-preserved
loop-preserved g c = told_then (told_then c.loop.invariant c.look_at_door.ensures) c.look_at_turns.ensures
