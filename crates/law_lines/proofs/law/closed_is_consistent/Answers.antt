-- The clauses are proved in `Closing` and `Lines`.
use Rattle.law_lines.proofs.Closing.{closed_is_consistent}
use Rattle.law_lines.proofs.Lines.{greatest_is_greatest_closed, line_of_histories}
use Rattle.law_lines.proofs.law.closed_is_consistent.Goals as goal

pub returns-clause-equivalent : goal.returns-clause-equivalent
returns-clause-equivalent c = closed_is_consistent

pub returns-clause-greatest : goal.returns-clause-greatest
returns-clause-greatest c = greatest_is_greatest_closed

pub returns-clause-line : goal.returns-clause-line
returns-clause-line c = line_of_histories
