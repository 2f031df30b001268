use Rattle.command_line.proofs.args.run_command.Goals as goal

pub returns : goal.returns
returns c =
    c.told_command.ensures _ c.optional_argument.ensures.rule
