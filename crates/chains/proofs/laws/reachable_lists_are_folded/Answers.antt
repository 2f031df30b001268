use Rattle.chains.proofs.Folding.{reached_folded}
use Rattle.chains.proofs.laws.reachable_lists_are_folded.Goals as goal

pub returns : goal.returns
returns c = reached_folded
