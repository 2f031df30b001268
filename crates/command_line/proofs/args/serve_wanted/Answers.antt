use Rattle.command_line.proofs.args.serve_wanted.Goals as goal

pub returns : goal.returns
returns c =
    c.with_argument.ensures _ _ (c.with_argument-command-2.ensures _ _ (c.with_argument-command.ensures _ _ (c.told_command-command.ensures _ c.word_argument.ensures.rule) c.wanted_argument.ensures.rule) c.option_argument.ensures.rule) c.wanted_argument-2.ensures.rule
