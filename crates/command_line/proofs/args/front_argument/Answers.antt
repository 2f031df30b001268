use Rattle.command_line.proofs.args.front_argument.Goals as goal

pub returns-clause-rule : goal.returns-clause-rule
returns-clause-rule c = c.option_argument.ensures.rule
