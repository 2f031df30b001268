use Rattle.std.proofs.Common.{◌∙◌, sym}
use Rattle.clap.specs.Matches.{found_of}
use Rattle.clap.proofs.WalkLemmas.{first_value-rows}
use Rattle.command_line.proofs.args.value_in.Goals as goal

pub returns : goal.returns
returns c = sym (first_value-rows (found_of c.args.matches.now) c.args.key.now) ∙ sym c.get_str.ensures
