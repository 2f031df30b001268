use Rattle.command_line.proofs.args.line_command.Goals as goal

pub returns : goal.returns
returns c =
    c.with_argument.ensures _ _ (c.with_argument-command.ensures _ _ (c.told_command-command.ensures _ c.file_argument.ensures.rule) c.word_argument.ensures.rule) c.front_argument.ensures.rule
