use Rattle.chains.proofs.Reaching.{parts_of_all, fit_before, never_fall}
use Rattle.chains.proofs.Numbering.{number_at, last_number}
use Rattle.chains.proofs.laws.folded_lists_are_lawful.Goals as goal

pub returns-clause-fit : goal.returns-clause-fit
returns-clause-fit c = fit_before

pub returns-clause-counted : goal.returns-clause-counted
returns-clause-counted c = number_at

pub returns-clause-numbered : goal.returns-clause-numbered
returns-clause-numbered c = last_number

pub returns-clause-parts : goal.returns-clause-parts
returns-clause-parts c = parts_of_all

pub returns-clause-rising : goal.returns-clause-rising
returns-clause-rising c = never_fall
