use Rattle.recline.proofs.Watched.{told_then}
use Rattle.recline.proofs.watching.watch.Goals as goal

pub returns-in_default : goal.returns-in_default
returns-in_default g c = told_then (told_then c.loop.invariant c.look_at_door.ensures) c.look_at_turns.ensures

pub loop-preserved-then-is_due : goal.loop-preserved-then-is_due
loop-preserved-then-is_due g c = told_then (told_then (told_then c.loop.invariant c.look_at_door.ensures) c.look_at_turns.ensures) c.tell_where.ensures

pub loop-preserved : goal.loop-preserved
loop-preserved g c = told_then (told_then (told_then c.loop.invariant c.look_at_door.ensures) c.look_at_turns.ensures) c.tell_where.ensures
