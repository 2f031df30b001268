use Rattle.std.proofs.Common.{refl}
use Rattle.line_explain.proofs.number.is_number.Goals as goal

pub returns-in-None : goal.returns-in-None
returns-in-None c = ((λ no. absurd cc), (λ fits. absurd (c.in-None.ensures fits.0 fits.1 fits.2)))

pub returns-in-Some : goal.returns-in-Some
returns-in-Some c = ((λ yes. (c.in-Some.field-0, c.in-Some.ensures.0, c.in-Some.ensures.1)), (λ fits. refl))
