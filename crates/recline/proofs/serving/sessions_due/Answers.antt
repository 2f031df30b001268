-- `sessions_due`: the source that said that the service is to end.
use Rattle.std.proofs.Common.{arith, inr}
use Rattle.std.proofs.Math.Logic.{∥∥₁_map}
use Rattle.recline.proofs.serving.sessions_due.Goals as goal

pub returns-in-Some : goal.returns-in-Some
returns-in-Some g c = inr (omega (arith, c.if-over-wanted.true), ∥∥₁_map c.in-Some.over.over (λ o. (c.in-Some.over.source, o)))
