use Rattle.id_tree.proofs.Covering.{answers_covering, answers_uncovered}
use Rattle.id_tree.proofs.Id.covers.Goals as goal

pub returns-clause-covering : goal.returns-clause-covering
returns-clause-covering c = answers_covering _ _ _ _ _ c.marks.ensures.are c.marks-2.ensures.are c.cover.ensures

pub returns-clause-uncovered : goal.returns-clause-uncovered
returns-clause-uncovered c = answers_uncovered _ _ _ _ _ c.marks.ensures.are c.marks-2.ensures.are c.cover.ensures
