use Rattle.command_line.proofs.args.comments_argument.Goals as goal

pub returns-clause-rule : goal.returns-clause-rule
returns-clause-rule c = c.flag_argument.ensures.rule
