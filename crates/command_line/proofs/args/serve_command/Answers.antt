use Rattle.command_line.proofs.args.serve_command.Goals as goal

pub returns : goal.returns
returns c =
    c.with_argument-2.ensures _ _ (c.with_argument.ensures _ _ (c.serve_wanted.ensures) c.option_argument-idle.ensures.rule) c.flag_argument-until_input_ends.ensures.rule
