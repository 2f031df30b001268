use Rattle.script.proofs.driving.go_on.Goals as goal

pub returns-in-Some : goal.returns-in-Some
returns-in-Some c = c.take_step.ensures c.args.line.now c.in-Some.ensures
