use Rattle.std.proofs.Common.{◌≡◌, ◌+◌, length}
use Rattle.id_tree.specs.working.Marks.{trees_of}
use Rattle.id_tree.specs.working.Tests.{all_covered}
use Rattle.id_tree.proofs.marks.cover.Given as goal

-- what is left tells what the whole does
abbrev pub invariant-loop-right : goal.invariant-loop-right
invariant-loop-right l = all_covered (trees_of l.left) (trees_of l.right) ≡ all_covered (trees_of l.fn.left) (trees_of l.fn.right)

abbrev pub decreases-loop-right : goal.decreases-loop-right
decreases-loop-right l = length l.left + length l.right
