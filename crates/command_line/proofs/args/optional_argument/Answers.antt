use Rattle.command_line.proofs.Commands.{helped}
use Rattle.command_line.proofs.args.optional_argument.Goals as goal

pub returns-clause-rule : goal.returns-clause-rule
returns-clause-rule c = helped c.new.result c.help.ensures c.new.ensures.rule
