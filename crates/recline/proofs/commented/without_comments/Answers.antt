use Rattle.recline.proofs.StepLines.{all_passed, one_passed, lines_are}
use Rattle.recline.proofs.commented.without_comments.Goals as goal

pub returns-in_err-pass_on-clause-lines : goal.returns-in_err-pass_on-clause-lines
returns-in_err-pass_on-clause-lines c = lines_are c.args.script.now

pub loop-line-preserved : goal.loop-line-preserved
loop-line-preserved c =
    rw c.in_ok-pass_on.ensures
    (one_passed c.args.script.now c.loop-line.rest.now c.in-Some.line.now c.in-Some.behind.now c.loop-line.text.items c.loop-line.invariant c.in-Some.ensures.0 c.in-Some.ensures.1)

pub returns-clause-passed_on : goal.returns-clause-passed_on
returns-clause-passed_on c = all_passed c.args.script.now c.loop-line.rest.now c.loop-line.text.items c.loop-line.invariant c.in_default.ensures

pub returns-clause-lines : goal.returns-clause-lines
returns-clause-lines c = lines_are c.args.script.now
