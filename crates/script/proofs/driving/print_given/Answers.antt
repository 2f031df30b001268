use Rattle.script.proofs.Taking.{one_given}
use Rattle.script.proofs.driving.print_given.Goals as goal

pub returns-in-Ok : goal.returns-in-Ok
returns-in-Ok c = one_given c.args.printout.now c.print_made.new.printout c.args.epoch c.args.given c.in-Some.report c.in-Some.is c.in-Ok.ensures.ok
