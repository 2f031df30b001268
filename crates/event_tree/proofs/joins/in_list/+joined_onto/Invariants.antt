use Rattle.event_tree.specs.Size.{size}
use Rattle.event_tree.proofs.joins.in_list.+joined_onto.Given as goal

abbrev pub decreases-joined_onto : goal.decreases-joined_onto
decreases-joined_onto l = size l.e
