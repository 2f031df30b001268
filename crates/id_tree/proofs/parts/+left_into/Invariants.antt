use Rattle.std.proofs.Common.{length}
use Rattle.id_tree.proofs.parts.+left_into.Given as goal

abbrev pub decreases-left_into : goal.decreases-left_into
decreases-left_into l = length l.marks.now
