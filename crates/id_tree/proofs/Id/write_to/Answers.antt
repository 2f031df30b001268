use Rattle.id_tree.proofs.Preorder.{one_tree}
use Rattle.id_tree.proofs.Id.write_to.Goals as goal

pub write_first-requires-clause-whole : goal.write_first-requires-clause-whole
write_first-requires-clause-whole c = one_tree _ _ c.marks-marks.ensures.are
