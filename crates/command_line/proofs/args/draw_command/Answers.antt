use Rattle.command_line.proofs.args.draw_command.Goals as goal

pub returns : goal.returns
returns c =
    c.with_argument.ensures _ _ (c.with_argument-command-2.ensures _ _ (c.with_argument-command.ensures _ _ (c.draw_wanted.ensures) c.option_argument.ensures.rule) c.option_argument-2.ensures.rule) c.front_argument.ensures.rule
