-- `serve_in_room`: the coordinator ended with the passes of its clients.
use Rattle.recline.proofs.generation.serve_in_room.Goals as goal

pub returns-in-Ok-clause-ok : goal.returns-in-Ok-clause-ok
returns-in-Ok-clause-ok g c = (c.add_passes-added.new.passes.items, (c.in-Ok.ensures.ok, c.add_passes-added.ensures))

pub returns-in-Err-clause-err : goal.returns-in-Err-clause-err
returns-in-Err-clause-err g c =
    let left = c.in-Err.ensures.left in (
      c.in-Err.remainder.fault,
      (c.in-Err.remainder.ended.turns, (c.in-Err.remainder.ended.front, (c.add_passes-added.new.passes.items, (rw c.broken.ensures.0 left, (c.add_passes-added.ensures, c.broken.ensures.1))))),
    )
