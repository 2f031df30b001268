use Rattle.id_tree.proofs.Preorder.{length_of_id}
use Rattle.id_tree.proofs.Id.size.Goals as goal

pub returns : goal.returns
returns c = length_of_id _ _ c.marks.ensures.are
