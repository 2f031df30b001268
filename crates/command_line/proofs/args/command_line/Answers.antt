use Rattle.command_line.proofs.args.command_line.Goals as goal

pub returns : goal.returns
returns c =
    let to_run = c.with_command-program.ensures _ _ c.program_alone-program.ensures.app (c.explaining.ensures _ c.run_command.ensures) in
    let to_serve = c.with_command-program-2.ensures _ _ to_run (c.explaining-2.ensures _ c.serve_command.ensures) in
    let to_check = c.with_command-program-3.ensures _ _ to_serve (c.explaining-3.ensures _ c.check_command.ensures) in
    let to_line = c.with_command-program-4.ensures _ _ to_check (c.explaining-4.ensures _ c.line_command.ensures) in
    let to_garbage = c.with_command-program-5.ensures _ _ to_line (c.explaining-5.ensures _ c.garbage_command.ensures) in
    let to_show = c.with_command-program-6.ensures _ _ to_garbage (c.explaining-6.ensures _ c.show_command.ensures) in
    let to_explain = c.with_command-program-7.ensures _ _ to_show c.explain_command.ensures in
    let to_drive = c.with_command-program-8.ensures _ _ to_explain (c.explaining-7.ensures _ c.drive_command.ensures) in
    c.with_command.ensures _ _ to_drive (c.explaining-8.ensures _ c.draw_command.ensures)
