use Rattle.std.proofs.Common.{◌≡◌, ◌++◌, length}
use Rattle.report_line.proofs.row.Names.to_vec.Given as goal

abbrev pub invariant-loop-name : goal.invariant-loop-name
invariant-loop-name l = l.self ≡ l.names.items ++ l.left

abbrev pub decreases-loop-name : goal.decreases-loop-name
decreases-loop-name l = length l.left
