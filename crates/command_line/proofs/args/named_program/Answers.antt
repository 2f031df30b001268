use Rattle.std.proofs.lemmas.Result.{IfOk-weaker}
use Rattle.command_line.proofs.Commands.{called}
use Rattle.command_line.proofs.args.named_program.Goals as goal

pub returns : goal.returns
returns c = IfOk-weaker c.bin_name.result _ _ (λ made is. called _ _ is.0 c.new.ensures.app) c.bin_name.ensures
