use Rattle.std.proofs.Common.{◌≡◌, length}
use Rattle.id_tree.specs.working.WayOfMarks.{are_nothing}
use Rattle.id_tree.proofs.way.are_nothing.Given as goal

-- what is left tells what the whole does
abbrev pub invariant-loop-rest : goal.invariant-loop-rest
invariant-loop-rest l = are_nothing l.rest ≡ are_nothing l.fn.marks

abbrev pub decreases-loop-rest : goal.decreases-loop-rest
decreases-loop-rest l = length l.rest
