use Rattle.command_line.proofs.Commands.{helped, required}
use Rattle.command_line.proofs.args.word_argument.Goals as goal

pub returns-clause-rule : goal.returns-clause-rule
returns-clause-rule c = helped c.required.result c.help.ensures (required _ c.required.ensures c.new.ensures.rule)
