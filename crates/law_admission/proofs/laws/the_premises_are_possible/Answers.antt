use Rattle.law_admission.proofs.Example.{gives_these, targets, can_be_reported}
use Rattle.law_admission.proofs.laws.the_premises_are_possible.Goals as goal

pub returns-clause-premises : goal.returns-clause-premises
returns-clause-premises c = can_be_reported

pub returns-clause-reports : goal.returns-clause-reports
returns-clause-reports c = gives_these

pub returns-clause-targets : goal.returns-clause-targets
returns-clause-targets c = targets
