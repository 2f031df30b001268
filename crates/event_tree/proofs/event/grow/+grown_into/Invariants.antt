use Rattle.id_tree.specs.NormalForm.{depth}
use Rattle.event_tree.proofs.event.grow.+grown_into.Given as goal

abbrev pub decreases-grown_into : goal.decreases-grown_into
decreases-grown_into l = depth l.id.now
