use Rattle.chains.specs.Processes.{known}
use Rattle.chains.specs.Held.{held_of}
use Rattle.chains.specs.working.Settling.{limits_in, IsKeptTo}
use Rattle.chains.proofs.keeping.fold_fit_settled.Given as goal

abbrev pub invariant-loop-i : goal.invariant-loop-i
invariant-loop-i l = IsKeptTo (held_of l.chains) (limits_in (known l.chains.accepted) l.limits) l.i (held_of l.kept)
