use Rattle.std.proofs.Common.{sym}
use Rattle.recline.proofs.StepLines.{this_number, past_one, over_one, last_number, numbers_steps}
use Rattle.recline.proofs.commented.line_of.Goals as goal

pub returns-then-left-le1-clause-number : goal.returns-then-left-le1-clause-number
returns-then-left-le1-clause-number c =
    this_number c.args.script.now c.loop-line.rest.now c.in-Some.line.now c.in-Some.behind.now c.args.step c.loop-line.number c.loop-line.left c.loop-line.invariant c.in-Some.ensures.0 c.in-Some.ensures.1
    (sym c.if-is_passed_on.ensures) c.if-left-le1.true

pub returns-then-left-le1-clause-law : goal.returns-then-left-le1-clause-law
returns-then-left-le1-clause-law c = numbers_steps

pub loop-line-preserved-else-left-le1 : goal.loop-line-preserved-else-left-le1
loop-line-preserved-else-left-le1 c =
    past_one c.args.script.now c.loop-line.rest.now c.in-Some.line.now c.in-Some.behind.now c.args.step c.loop-line.number c.loop-line.left c.loop-line.invariant c.in-Some.ensures.0 c.in-Some.ensures.1
    (sym c.if-is_passed_on.ensures) c.if-left-le1.false

pub loop-line-preserved : goal.loop-line-preserved
loop-line-preserved c =
    over_one c.args.script.now c.loop-line.rest.now c.in-Some.line.now c.in-Some.behind.now c.args.step c.loop-line.number c.loop-line.left c.loop-line.invariant c.in-Some.ensures.0 c.in-Some.ensures.1
    (sym c.if-is_passed_on.ensures)

pub returns-clause-number : goal.returns-clause-number
returns-clause-number c = last_number c.args.script.now c.loop-line.rest.now c.args.step c.loop-line.number c.loop-line.left c.loop-line.invariant c.in_default.ensures

pub returns-clause-law : goal.returns-clause-law
returns-clause-law c = numbers_steps
