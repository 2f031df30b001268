use Rattle.id_tree.proofs.Apart.{answers_disjoint, answers_overlap}
use Rattle.id_tree.proofs.Id.disjoint.Goals as goal

pub returns-clause-disjoint : goal.returns-clause-disjoint
returns-clause-disjoint c = answers_disjoint _ _ _ _ _ c.marks.ensures.are c.marks-2.ensures.are c.are_apart.ensures

pub returns-clause-overlapping : goal.returns-clause-overlapping
returns-clause-overlapping c = answers_overlap _ _ _ _ _ c.marks.ensures.are c.marks-2.ensures.are c.are_apart.ensures
