use Rattle.command_line.proofs.args.script_argument.Goals as goal

pub returns-clause-rule : goal.returns-clause-rule
returns-clause-rule c = c.word_argument.ensures.rule
