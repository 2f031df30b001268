use Rattle.std.proofs.Common.{◌≡◌, map, take}
use Rattle.chains.specs.Processes.{known}
use Rattle.record_show.specs.Processes.{shown_process}
use Rattle.record_show.proofs.gathering.shown_processes.Given as goal

abbrev pub invariant-loop-process : goal.invariant-loop-process
invariant-loop-process l = l.processes.items ≡ map (shown_process l.chains.accepted) (take l.process (known l.chains.accepted))
