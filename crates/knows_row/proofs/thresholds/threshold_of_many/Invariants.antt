use Rattle.std.proofs.Common.{◌<◌, ◌≤◌}
use Rattle.knows_row.specs.Thresholds.{IsThreshold}
use Rattle.knows_row.proofs.thresholds.threshold_of_many.Given as goal

abbrev pub invariant-loop-k : goal.invariant-loop-k
invariant-loop-k l = (l.from < l.k) × (l.k ≤ l.to) × IsThreshold l.chains.accepted l.process l.from l.k l.bound
