use Rattle.id_tree.proofs.Preorder.{first_marks}
use Rattle.id_tree.proofs.marks.split_first_tree.Goals as goal

pub returns-clause-first : goal.returns-clause-first
returns-clause-first c = first_marks c.first_len.result _ _ c.split_at.ensures.front c.first_len.ensures.within c.first_len.ensures.behind
