use Rattle.id_tree.specs.NormalForm.{depth}
use Rattle.id_tree.proofs.together.+is_same.Given as goal

abbrev pub decreases-is_same : goal.decreases-is_same
decreases-is_same l = depth l.one.now
