use Rattle.std.proofs.Common.{◌≡◌, ◌≤◌, ◌+◌, drop}
use Rattle.id_tree.specs.working.Marks.{trees_of, later}
use Rattle.id_tree.proofs.marks.first_len.Given as goal

-- behind the trees that are pending stands what is behind the first tree
abbrev pub invariant-loop-index : goal.invariant-loop-index
invariant-loop-index l = (1 ≤ l.pending) × (l.pending ≤ l.index + 1) × (drop l.pending (trees_of (drop l.index l.marks)) ≡ later (trees_of l.marks))
