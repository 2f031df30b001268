use Rattle.id_tree.specs.NormalForm.{depth}
use Rattle.event_tree.proofs.event.fill.+filled_onto.Given as goal

abbrev pub decreases-filled_onto : goal.decreases-filled_onto
decreases-filled_onto l = depth l.id.now
