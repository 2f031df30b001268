use Rattle.std.proofs.Common.{length}
use Rattle.id_tree.proofs.parts.+right_into.Given as goal

abbrev pub decreases-right_into : goal.decreases-right_into
decreases-right_into l = length l.marks.now
