use Rattle.std.proofs.Common.{length}
use Rattle.id_tree.proofs.text.+write_first.Given as goal

abbrev pub decreases-write_first : goal.decreases-write_first
decreases-write_first l = length l.marks.now
