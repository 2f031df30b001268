use Rattle.std.proofs.Common.{sym}
use Rattle.std.proofs.lemmas.Bool.{true≢false}
use Rattle.driver.proofs.steps.received.Goals as goal

pub returns-in-Ok : goal.returns-in-Ok
returns-in-Ok c = record { receive = c.in-Ok.ensures.receive; fits = λ passes. true≢false (sym (c.in-Ok.ensures.full passes.0 passes.1 passes.2)) }
