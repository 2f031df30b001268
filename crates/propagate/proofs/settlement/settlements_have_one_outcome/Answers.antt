-- There is one greatest cut, and one set of failed processes of these names.
use Rattle.propagate.proofs.Outcomes.{one_cut, one_outcome}
use Rattle.propagate.proofs.settlement.settlements_have_one_outcome.Goals as goal

pub returns-clause-cuts : goal.returns-clause-cuts
returns-clause-cuts c = one_cut

pub returns-clause-outcome : goal.returns-clause-outcome
returns-clause-outcome c = one_outcome
