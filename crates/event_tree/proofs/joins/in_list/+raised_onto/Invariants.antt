use Rattle.event_tree.specs.Size.{size}
use Rattle.event_tree.proofs.joins.in_list.+raised_onto.Given as goal

abbrev pub decreases-raised_onto : goal.decreases-raised_onto
decreases-raised_onto l = size l.f
