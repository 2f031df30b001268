use Rattle.std.proofs.Common.{refl}
use Rattle.command_line.specs.Arguments.{HasValues}
use Rattle.command_line.specs.Parts.{values_of}
use Rattle.command_line.specs.declared.args.Command.TheVariants as commands
use Rattle.command_line.proofs.Numbers.{all_numbers, no_idle, no_port, no_sessions, no_workers}
use Rattle.command_line.proofs.args.serve_asked.Goals as goal

pub returns-in_default : goal.returns-in_default
returns-in_default c = (tt, no_port (values_of c.args.serving.now) c.number_refused.result c.in_default.ensures.none c.number_refused.ensures)

pub returns-in_default-optional_number_in : goal.returns-in_default-optional_number_in
returns-in_default-optional_number_in c = (
  tt,
  no_sessions (values_of c.args.serving.now) c.number_refused-in_default-optional_number_in.result c.in_default-optional_number_in.ensures.none
      c.number_refused-in_default-optional_number_in.ensures,
)

pub returns-in_default-number_in : goal.returns-in_default-number_in
returns-in_default-number_in c =
    (tt, no_workers (values_of c.args.serving.now) c.number_refused-in_default-number_in.result c.in_default-number_in.ensures.none c.number_refused-in_default-number_in.ensures)

pub returns-in_default-optional_number_in-2 : goal.returns-in_default-optional_number_in-2
returns-in_default-optional_number_in-2 c = (
  tt,
  no_idle (values_of c.args.serving.now) c.number_refused-in_default-optional_number_in-2.result c.in_default-optional_number_in-2.ensures.none
      c.number_refused-in_default-optional_number_in-2.ensures,
)

pub returns : goal.returns
returns c =
    let rows = values_of c.args.serving.now in
    let has : HasValues rows (commands.Serve c.wanted_in-file.result c.in-Some.port c.in-Some-optional_number_in.sessions c.in-Some-number_in.workers c.in-Some-optional_number_in-2.idle c.flag_in-until_input_ends.result) =
    (c.wanted_in-file.ensures, c.in-Some.ensures.some, c.in-Some-optional_number_in.ensures.some, c.in-Some-number_in.ensures.some, c.in-Some-optional_number_in-2.ensures.some, c.flag_in-until_input_ends.ensures) in
    ((refl, has), all_numbers rows c.wanted_in-file.result c.in-Some.port c.in-Some-optional_number_in.sessions c.in-Some-number_in.workers c.in-Some-optional_number_in-2.idle c.flag_in-until_input_ends.result has)
