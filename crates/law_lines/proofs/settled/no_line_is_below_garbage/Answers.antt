-- The clauses are proved in `Growing`.
use Rattle.law_lines.proofs.Growing.{no_line_is_below_garbage, who_is_gone_was_unborn}
use Rattle.law_lines.proofs.settled.no_line_is_below_garbage.Goals as goal

pub returns-clause-below : goal.returns-clause-below
returns-clause-below c = no_line_is_below_garbage

pub returns-clause-gone : goal.returns-clause-gone
returns-clause-gone c = who_is_gone_was_unborn
