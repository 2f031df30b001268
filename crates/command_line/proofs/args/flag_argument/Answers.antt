use Rattle.command_line.proofs.Commands.{flagged, helped, long}
use Rattle.command_line.proofs.args.flag_argument.Goals as goal

pub returns-clause-rule : goal.returns-clause-rule
returns-clause-rule c = helped c.action.result c.help.ensures (flagged c.long.result c.action.ensures (long _ c.long.ensures c.new.ensures.rule))
