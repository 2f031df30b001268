use Rattle.std.proofs.Common.{◌≡◌, ◌++◌, take}
use Rattle.std.specs.List.{flat_map}
use Rattle.record_show.specs.Tables.{process_line}
use Rattle.record_show.proofs.table.push_processes.Given as goal

abbrev pub invariant-loop-process : goal.invariant-loop-process
invariant-loop-process l = l.out.items ≡ l.fn.out.items ++ flat_map (process_line l.columns) (take l.process-index l.processes)
