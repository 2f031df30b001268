use Rattle.session.proofs.OverFiles.{no_line_is_below_garbage_over_files, what_is_held_is_opened, sessions_are_over_files, desks_are_over_files}
use Rattle.session.proofs.FileTurns.{each_file_has_a_trace}
use Rattle.session.proofs.OpenedTwice.{two_openings_are_possible}
use Rattle.session.proofs.laws.no_line_is_below_garbage_over_files.Goals as goal

pub returns-clause-below : goal.returns-clause-below
returns-clause-below c = no_line_is_below_garbage_over_files

pub returns-clause-opened : goal.returns-clause-opened
returns-clause-opened c = what_is_held_is_opened

pub returns-clause-sessions : goal.returns-clause-sessions
returns-clause-sessions c = sessions_are_over_files

pub returns-clause-desks : goal.returns-clause-desks
returns-clause-desks c = desks_are_over_files

pub returns-clause-told : goal.returns-clause-told
returns-clause-told c = each_file_has_a_trace

pub returns-clause-possible : goal.returns-clause-possible
returns-clause-possible c = two_openings_are_possible
