use Rattle.std.proofs.Common.{sym, ◌∙◌}
use Rattle.driver.proofs.Retirements.{retired_into}
use Rattle.driver.proofs.steps.retirement.Goals as goal

pub returns-then-eq : goal.returns-then-eq
returns-then-eq c =
    retired_into c.args.tables.now c.args.retired.now c.args.process.now c.in-Some-Waits.field-0.now c.in-Some-Waits.step c.in-Some-Waits.target
    c.as_bytes.result.now c.as_bytes-in-Some-Waits.result.now c.index.result.now c.requires c.in-Some-Waits.ensures.value c.in-Some-Waits.field-0-is
    c.as_bytes.ensures.value c.as_bytes-in-Some-Waits.ensures.value (sym c.eq.ensures ∙ c.if-eq.true) c.index.ensures
