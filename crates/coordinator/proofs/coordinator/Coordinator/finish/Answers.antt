-- `finish`: what is said of the desk is said of its disk.
use Rattle.coordinator.proofs.coordinator.Coordinator.finish.Goals as goal

pub returns-in-Ok-clause-ok : goal.returns-in-Ok-clause-ok
returns-in-Ok-clause-ok g c = rw (c.end_desk.ensures.turns, c.end_desk.ensures.front, c.end_desk.ensures.disk) c.in-Ok.ensures.ok.ends
