use Rattle.std.proofs.Common.{length}
use Rattle.id_tree.proofs.marks.+sum_into.Given as goal

abbrev pub decreases-sum_into : goal.decreases-sum_into
decreases-sum_into l = length l.left.now
