use Rattle.line_disk.proofs.Devices.{can_hold, can_fail}
use Rattle.line_disk.proofs.device.the_premise_is_open.Goals as goal

pub returns-clause-can_hold : goal.returns-clause-can_hold
returns-clause-can_hold c = can_hold

pub returns-clause-can_fail : goal.returns-clause-can_fail
returns-clause-can_fail c = can_fail
