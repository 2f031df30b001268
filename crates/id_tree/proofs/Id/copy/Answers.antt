use Rattle.std.proofs.Common.{◌≤◌, ◌∙◌, length, arith}
use Rattle.id_tree.proofs.Preorder.{length_of_id, are_of}
use Rattle.id_tree.proofs.Id.copy.Goals as goal

pub returns-in_err-marks-clause-small : goal.returns-in_err-marks-clause-small
returns-in_err-marks-clause-small c = λ h.
    let few : length c.marks.result.now ≤ 16 = omega (arith, length_of_id _ _ c.marks.ensures.are) in
    grind (arith, few)

pub invariant_of-result : goal.invariant_of-result
invariant_of-result c = are_of _ _ (c.in_ok-marks.ensures.ok ∙ c.marks.ensures.are.are) c.marks.ensures.are.id
