use Rattle.chains.proofs.Turning.{still_reached, turn_reached}
use Rattle.chains.proofs.laws.replies_keep_lists_folded.Goals as goal

pub returns-clause-report : goal.returns-clause-report
returns-clause-report c = still_reached

pub returns-clause-turn : goal.returns-clause-turn
returns-clause-turn c = turn_reached
