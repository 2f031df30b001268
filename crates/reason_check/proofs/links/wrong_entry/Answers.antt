use Rattle.std.proofs.Common.{arith}
use Rattle.reason_check.specs.working.Falling.{IsFalling}
use Rattle.reason_check.proofs.links.wrong_entry.Goals as goal

pub loop-e-init : goal.loop-e-init
unfolding IsFalling
loop-e-init c = ((λ k l. absurd (omega arith)), (λ falls i j a b l same. absurd (omega arith)))
