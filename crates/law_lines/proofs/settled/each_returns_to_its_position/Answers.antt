-- The law is proved in `Forgotten`.
use Rattle.law_lines.proofs.Forgotten.{each_returns_to_its_position}
use Rattle.law_lines.proofs.settled.each_returns_to_its_position.Goals as goal

pub returns : goal.returns
returns c = each_returns_to_its_position
