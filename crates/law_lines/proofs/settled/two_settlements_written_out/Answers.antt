-- The clauses are proved in `Twice`.
use Rattle.law_lines.proofs.Twice.{twice_settled_is_obeyed, checkpoints_are_current, checkpoints_are_accepted}
use Rattle.law_lines.proofs.settled.two_settlements_written_out.Goals as goal

pub returns-clause-obeyed : goal.returns-clause-obeyed
returns-clause-obeyed c = twice_settled_is_obeyed

pub returns-clause-history : goal.returns-clause-history
returns-clause-history c = checkpoints_are_current

pub returns-clause-reports : goal.returns-clause-reports
returns-clause-reports c = checkpoints_are_accepted
