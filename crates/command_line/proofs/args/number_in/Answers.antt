use Rattle.std.proofs.Common.{sym}
use Rattle.command_line.proofs.Numbers.{none_in}
use Rattle.command_line.proofs.args.number_in.Goals as goal

pub returns-in-Some-clause-none : goal.returns-in-Some-clause-none
returns-in-Some-clause-none c = none_in c.args.least c.args.most c.in-Some.text.now _ c.number_of.result (sym c.in-Some.ensures) c.number_of.ensures.none
