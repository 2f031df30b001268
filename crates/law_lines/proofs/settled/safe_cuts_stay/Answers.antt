-- The clauses are proved in `Safe` and `Growing`.
use Rattle.law_lines.proofs.Safe.{no_line_is_below_safe, safe_cuts_stay}
use Rattle.law_lines.proofs.Growing.{safe_cuts_grow}
use Rattle.law_lines.proofs.settled.safe_cuts_stay.Goals as goal

pub returns-clause-below : goal.returns-clause-below
returns-clause-below c = no_line_is_below_safe

pub returns-clause-stays : goal.returns-clause-stays
returns-clause-stays c = safe_cuts_stay

pub returns-clause-grows : goal.returns-clause-grows
returns-clause-grows c = safe_cuts_grow
