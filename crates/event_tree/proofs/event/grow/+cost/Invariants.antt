use Rattle.id_tree.specs.NormalForm.{depth}
use Rattle.event_tree.proofs.event.grow.+cost.Given as goal

abbrev pub decreases-cost : goal.decreases-cost
decreases-cost l = depth l.id.now
