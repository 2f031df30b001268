use Rattle.command_line.proofs.args.draw_wanted.Goals as goal

pub returns : goal.returns
returns c =
    c.with_argument.ensures _ _ (c.with_argument-command.ensures _ _ (c.told_command-command.ensures _ c.script_argument.ensures.rule) c.comments_argument.ensures.rule) c.flag_argument.ensures.rule
