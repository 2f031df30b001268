use Rattle.command_line.proofs.Commands.{helped, long, required, valued}
use Rattle.command_line.proofs.args.wanted_argument.Goals as goal

pub returns-clause-rule : goal.returns-clause-rule
returns-clause-rule c = helped c.required.result c.help.ensures (required c.value_name.result c.required.ensures (valued c.long.result c.value_name.ensures (long _ c.long.ensures c.new.ensures.rule)))
