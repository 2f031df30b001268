-- `end_service`: where the passes are not those of all turns, what the coordinator says is told on.
use Rattle.std.proofs.Common.{refl}
use Rattle.recline.proofs.serving.end_service.Goals as goal

pub returns-in-Err-clause-remains : goal.returns-in-Err-clause-remains
returns-in-Err-clause-remains g c = rw c.in-Err.is (c.stopped_with.ensures.1, c.stopped_with.ensures.0, refl)
