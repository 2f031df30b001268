use Rattle.event_tree.specs.Size.{size}
use Rattle.event_tree.proofs.event.greatest.+greatest.Given as goal

abbrev pub decreases-greatest : goal.decreases-greatest
decreases-greatest l = size l.e.now
