use Rattle.std.proofs.Common.{◌≡◌, take, map}
use Rattle.chains.specs.working.Keeping.{view_of}
use Rattle.chains.proofs.copies.copy_processes.Given as goal

abbrev pub invariant-loop-process : goal.invariant-loop-process
invariant-loop-process l = map view_of l.copy.items ≡ take l.process-index (map view_of l.processes)
