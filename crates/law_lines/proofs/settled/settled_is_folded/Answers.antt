-- The law is proved in `Closing`.
use Rattle.law_lines.proofs.SettledClosing.{settled_is_folded}
use Rattle.law_lines.proofs.settled.settled_is_folded.Goals as goal

pub returns : goal.returns
returns c = settled_is_folded
