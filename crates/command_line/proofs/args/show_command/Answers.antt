use Rattle.command_line.proofs.args.show_command.Goals as goal

pub returns : goal.returns
returns c =
    c.with_argument.ensures _ _ (c.with_argument-command-2.ensures _ _ (c.with_argument-command.ensures _ _ (c.told_command-command.ensures _ c.file_argument.ensures.rule) c.front_argument.ensures.rule) c.flag_argument.ensures.rule) c.flag_argument-2.ensures.rule
