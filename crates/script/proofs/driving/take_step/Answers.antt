use Rattle.script.proofs.Taking.{step_told, step_refused}
use Rattle.script.proofs.driving.take_step.Goals as goal

pub returns-in-Err : goal.returns-in-Err
returns-in-Err c = step_refused c.args.world.now c.args.step c.args.printout.now c.in-Err.fault c.in-Err.ensures.refused

pub returns : goal.returns
returns c =
    step_told c.args.world.now c.step.new.self c.args.step c.in-Ok.given c.args.printout.now c.print_given.new.printout c.epoch.result c.print_given.result c.in-Ok.ensures.step c.epoch.ensures c.print_given.ensures
