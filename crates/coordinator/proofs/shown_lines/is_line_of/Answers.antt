use Rattle.std.proofs.lemmas.Result.{IfOk-weaker}
use Rattle.chains.specs.Held.{held_of}
use Rattle.coordinator.proofs.Certifying.{line_when}
use Rattle.coordinator.proofs.shown_lines.is_line_of.Goals as goal

pub returns-in-Some : goal.returns-in-Some
returns-in-Some c =
    IfOk-weaker c.is_for_names.result _ _
    (λ b told. line_when (held_of c.args.chains.now) c.args.names.now c.args.text.now c.in_ok-certified_in.field-0 c.in-Some.certificate b c.in-Some.is c.in_ok-certified_in.ensures.some c.in_ok-certified_in.ensures.only told)
    c.is_for_names.ensures
