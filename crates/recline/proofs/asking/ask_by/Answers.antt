use Rattle.std.proofs.Common.{inl}
use Rattle.line_disk.specs.working.ReadIsLeft.{left_now}
use Rattle.line_disk.specs.Tape.{calls_on, disk_view}
use Rattle.recline.proofs.asking.ask_by.Goals as goal

pub returns-in-Ok : goal.returns-in-Ok
returns-in-Ok g c =
    let disk = c.in-Ok.disk in
    inl (record {
      disk = disk;
      seen = c.in-Ok.ensures.durable (disk_view disk).seen (left_now disk.tape.first.items (calls_on disk.tape));
      over = c.ask_over.ensures;
    })
