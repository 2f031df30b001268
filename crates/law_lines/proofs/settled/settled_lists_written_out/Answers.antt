-- The clauses are proved in `Written`.
use Rattle.law_lines.proofs.Written.{all_is_kept, only_begin_is_kept, open_does_not_fold}
use Rattle.law_lines.proofs.settled.settled_lists_written_out.Goals as goal

pub returns-clause-all : goal.returns-clause-all
returns-clause-all c = all_is_kept

pub returns-clause-none : goal.returns-clause-none
returns-clause-none c = only_begin_is_kept

pub returns-clause-open : goal.returns-clause-open
returns-clause-open c = open_does_not_fold
