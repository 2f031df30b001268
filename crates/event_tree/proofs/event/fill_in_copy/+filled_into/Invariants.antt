use Rattle.id_tree.specs.NormalForm.{depth}
use Rattle.event_tree.proofs.event.fill_in_copy.+filled_into.Given as goal

abbrev pub decreases-filled_into : goal.decreases-filled_into
decreases-filled_into l = depth l.id.now
