use Rattle.std.proofs.Common.{sym}
use Rattle.std.proofs.lemmas.Bool.{true≢false}
use Rattle.driver.proofs.steps.absorbed.Goals as goal

pub returns-in-Ok : goal.returns-in-Ok
returns-in-Ok c = record { absorb = c.in-Ok.ensures.absorb; fits = λ passes. true≢false (sym (c.in-Ok.ensures.full passes)) }
