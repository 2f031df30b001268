-- The clauses are proved in `Runs`.
use Rattle.law_lines.proofs.Runs.{current_agrees, headline_holds, settlement_is_possible}
use Rattle.law_lines.proofs.settled.headline_after_settlements.Goals as goal

pub returns-clause-premise : goal.returns-clause-premise
returns-clause-premise c = current_agrees

pub returns-clause-headline : goal.returns-clause-headline
returns-clause-headline c = headline_holds

pub returns-clause-possible : goal.returns-clause-possible
returns-clause-possible c = settlement_is_possible
