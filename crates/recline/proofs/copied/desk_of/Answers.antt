use Rattle.std.proofs.Common.{ℕ, List, subst}
use Rattle.line_disk.specs.working.ReadIsLeft.{left_now}
use Rattle.line_disk.specs.Tape.{calls_on, disk_view}
use Rattle.desk.specs.Openings.{RefusesFile}
use Rattle.recline.proofs.copied.desk_of.Goals as goal

pub returns-clause-refused : goal.returns-clause-refused
returns-clause-refused c =
    let disk = c.in-Ok.disk in
    let seen = c.in-Ok.ensures.durable (disk_view disk).seen (left_now disk.tape.first.items (calls_on disk.tape)) in
    c.in_memory.ensures.refuses c.args.bytes.now (subst (λ (b : List ℕ). RefusesFile b c.in-Err.fault) seen (c.in-Err.ensures.refused tt))
