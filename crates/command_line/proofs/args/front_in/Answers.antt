use Rattle.command_line.proofs.Numbers.{may_there}
use Rattle.command_line.proofs.args.front_in.Goals as goal

pub returns-in-Some-number-clause-within : goal.returns-in-Some-number-clause-within
returns-in-Some-number-clause-within c = may_there 0 16384 c.in-Some.number _ c.in-Some.ensures.some
