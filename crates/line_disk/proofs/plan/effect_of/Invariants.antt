use Rattle.std.proofs.Common.{◌≡◌, drop}
use Rattle.line_disk.specs.Plans.{planned_at}
use Rattle.line_disk.proofs.plan.effect_of.Given as goal

abbrev pub invariant-loop-planned : goal.invariant-loop-planned
invariant-loop-planned l = planned_at l.plan l.call ≡ planned_at (drop l.planned-index l.plan) l.call
