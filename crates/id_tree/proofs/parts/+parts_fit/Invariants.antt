use Rattle.std.proofs.Common.{length}
use Rattle.id_tree.proofs.parts.+parts_fit.Given as goal

abbrev pub decreases-parts_fit : goal.decreases-parts_fit
decreases-parts_fit l = length l.marks.now
