use Rattle.std.proofs.Common.{◌≡◌, take}
use Rattle.record_show.specs.Tables.{width}
use Rattle.record_show.proofs.columns.as_wide.Given as goal

abbrev pub invariant-loop-process : goal.invariant-loop-process
invariant-loop-process l = l.width ≡ width (take l.process-index l.processes) l.column
