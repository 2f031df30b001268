use Rattle.std.proofs.Common.{◌<◌, [], length, get_or}
use Rattle.knows_row.specs.Thresholds.{IsFirstPassed}
use Rattle.knows_row.proofs.thresholds.first_of_rows.Given as goal

abbrev pub invariant-loop-level : goal.invariant-loop-level
invariant-loop-level l = (l.level < length l.rows) × IsFirstPassed l.events (get_or l.rows l.level []) l.at

abbrev pub decreases-loop-level : goal.decreases-loop-level
decreases-loop-level l = l.level
