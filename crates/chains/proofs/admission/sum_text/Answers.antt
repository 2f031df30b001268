use Rattle.std.proofs.Common.{◌≡◌, subst}
use Rattle.std.specs.Prelude.{IfOk}
use Rattle.id_tree.specs.IdTree.{IdTree}
use Rattle.id_tree.specs.Spelling.{spelling}
use Rattle.chains.proofs.Tested.{is_the_sum}
use Rattle.chains.proofs.admission.sum_text.Goals as goal

pub returns-in-Ok : goal.returns-in-Ok
returns-in-Ok c =
    subst (λ (i : IdTree). IfOk c.id_text.result (λ t. t ≡ spelling i)) (is_the_sum c.args.left.now c.args.right.now c.in-Ok.sum c.recall_facts.ensures.normal c.recall_facts-in-Ok.ensures.normal c.recall_facts-in-Ok-2.ensures.normal c.in-Ok.ensures.sum) c.id_text.ensures
