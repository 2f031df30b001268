use Rattle.session.proofs.OverRuns.{each_line_is_right_now, each_shared_line_is_right_now, no_line_is_below_garbage, no_shared_line_is_below_garbage}
use Rattle.session.proofs.FileTurns.{each_file_tells_a_run}
use Rattle.session.proofs.laws.each_line_is_right_for_the_current_history.Goals as goal

pub returns-clause-now : goal.returns-clause-now
returns-clause-now c = each_line_is_right_now

pub returns-clause-garbage : goal.returns-clause-garbage
returns-clause-garbage c = no_line_is_below_garbage

pub returns-clause-shared : goal.returns-clause-shared
returns-clause-shared c = each_shared_line_is_right_now

pub returns-clause-shared_garbage : goal.returns-clause-shared_garbage
returns-clause-shared_garbage c = no_shared_line_is_below_garbage

pub returns-clause-file : goal.returns-clause-file
returns-clause-file c = each_file_tells_a_run
