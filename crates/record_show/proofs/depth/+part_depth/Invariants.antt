use Rattle.id_tree.specs.NormalForm.{depth}
use Rattle.record_show.proofs.depth.+part_depth.Given as goal

abbrev pub decreases-part_depth : goal.decreases-part_depth
decreases-part_depth l = depth l.part.now
