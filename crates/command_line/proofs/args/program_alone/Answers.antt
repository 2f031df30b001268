use Rattle.std.proofs.Common.{ap, true, ◌∙◌}
use Rattle.clap.specs.Simple.{on_top}
use Rattle.command_line.proofs.args.program_alone.Goals as goal

pub returns : goal.returns
returns c = record { app = c.with_version.ensures ∙ ap (on_top (λ s. record s { has_version = true; subcommand_required = true })) c.in_ok-named_program.ensures }
