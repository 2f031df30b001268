-- The clauses are proved in `Parted`.
use Rattle.law_turns.proofs.Parted.{no_line_is_below_earlier_garbage, who_is_gone_was_unborn_then}
use Rattle.law_turns.proofs.no_line_is_below_earlier_garbage.Goals as goal

pub returns-clause-below : goal.returns-clause-below
returns-clause-below c = no_line_is_below_earlier_garbage

pub returns-clause-gone : goal.returns-clause-gone
returns-clause-gone c = who_is_gone_was_unborn_then
