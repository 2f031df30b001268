use Rattle.std.proofs.Common.{refl}
use Rattle.command_line.proofs.Commands.{described, versioned, wanting}
use Rattle.command_line.proofs.args.with_version.Goals as goal

pub returns : goal.returns
returns c = wanting _ _ c.subcommand_required.ensures (described _ _ c.about.ensures (versioned _ _ c.version.ensures refl))
