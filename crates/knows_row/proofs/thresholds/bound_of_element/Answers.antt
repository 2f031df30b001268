use Rattle.std.proofs.Common.{arith}
use Rattle.std.proofs.lemmas.Result.{IfOk-weaker}
use Rattle.knows_row.proofs.Thresholding.{element_alone, numbered_of}
use Rattle.knows_row.proofs.thresholds.bound_of_element.Goals as goal

pub returns-in-Some : goal.returns-in-Some
returns-in-Some c = IfOk-weaker c.bound_of.result _ _ (λ t h v small.
    element_alone v t c.args.elements.now c.args.k (record { id = c.in-Some.element.id.now; events = c.in-Some.element.events.now })
    (numbered_of c.args.elements.now c.args.k _ (omega (arith, c.if-k-eq0.false)) c.in-Some.ensures) (h v small)) c.bound_of.ensures
