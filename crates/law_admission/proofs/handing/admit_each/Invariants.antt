use Rattle.std.proofs.Common.{take}
use Rattle.chains.specs.Held.{held_of}
use Rattle.law_admission.specs.FirstRefusal.{AreTaken}
use Rattle.law_admission.proofs.handing.admit_each.Given as goal

abbrev pub invariant-loop-place : goal.invariant-loop-place
invariant-loop-place l = AreTaken (held_of l.initial.chains) (take l.place l.reports) (held_of l.chains)
