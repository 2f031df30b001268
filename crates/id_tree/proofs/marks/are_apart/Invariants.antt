use Rattle.std.proofs.Common.{◌≡◌, ◌+◌, length}
use Rattle.id_tree.specs.working.Marks.{trees_of}
use Rattle.id_tree.specs.working.Tests.{all_disjoint}
use Rattle.id_tree.proofs.marks.are_apart.Given as goal

-- what is left tells what the whole does
abbrev pub invariant-loop-left : goal.invariant-loop-left
invariant-loop-left l = all_disjoint (trees_of l.left) (trees_of l.right) ≡ all_disjoint (trees_of l.fn.left) (trees_of l.fn.right)

abbrev pub decreases-loop-left : goal.decreases-loop-left
decreases-loop-left l = length l.left + length l.right
