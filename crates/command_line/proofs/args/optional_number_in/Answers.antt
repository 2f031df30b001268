use Rattle.std.proofs.Common.{sym}
use Rattle.command_line.proofs.Numbers.{none_in_optional}
use Rattle.command_line.proofs.args.optional_number_in.Goals as goal

pub returns-in_err-number_of-in-Some-clause-none : goal.returns-in_err-number_of-in-Some-clause-none
returns-in_err-number_of-in-Some-clause-none c =
    none_in_optional c.args.least c.args.most c.in-Some.text.now _ c.from_residual.result (sym c.in-Some.ensures) c.in_err-number_of-in-Some.ensures.none
