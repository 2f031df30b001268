use Rattle.id_tree.proofs.Preorder.{same_marks}
use Rattle.id_tree.proofs.Id.equal.Goals as goal

pub returns : goal.returns
returns c =
    let same = same_marks _ _ _ _ c.marks.ensures.are c.marks-2.ensures.are in
    (λ e. same.0 (c.are_same.ensures.0 e), λ e. c.are_same.ensures.1 (same.1 e))
