-- `read`: a line that is no longer than a client's may be is that of a short call.
use Rattle.desk.proofs.Short.{short_call}
use Rattle.workbench.proofs.again.shared.read.Goals as goal

pub returns-in-Ok : goal.returns-in-Ok
returns-in-Ok c = short_call c.args.line.now c.in-Ok.call c.requires c.in-Ok.ensures.found.1
