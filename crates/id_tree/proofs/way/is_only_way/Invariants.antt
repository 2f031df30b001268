use Rattle.std.proofs.Common.{◌≡◌, length}
use Rattle.id_tree.specs.working.WayOfMarks.{is_only_way}
use Rattle.id_tree.proofs.way.is_only_way.Given as goal

-- what is left tells what the whole does
abbrev pub invariant-loop-rest : goal.invariant-loop-rest
invariant-loop-rest l = is_only_way l.rest ≡ is_only_way l.fn.marks

abbrev pub decreases-loop-rest : goal.decreases-loop-rest
decreases-loop-rest l = length l.rest
