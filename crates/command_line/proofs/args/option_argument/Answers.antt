use Rattle.command_line.proofs.Commands.{helped, long, valued}
use Rattle.command_line.proofs.args.option_argument.Goals as goal

pub returns-clause-rule : goal.returns-clause-rule
returns-clause-rule c = helped c.value_name.result c.help.ensures (valued c.long.result c.value_name.ensures (long _ c.long.ensures c.new.ensures.rule))
