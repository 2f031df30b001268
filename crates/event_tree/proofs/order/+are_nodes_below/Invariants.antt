use Rattle.event_tree.specs.Size.{size}
use Rattle.event_tree.specs.working.Tests.{is_below_from}
use Rattle.event_tree.specs.working.Pending.{sizes, IsLeft}
use Rattle.event_tree.proofs.order.+are_nodes_below.Given as goal

abbrev pub invariant-loop-one : goal.invariant-loop-one
invariant-loop-one l = IsLeft l.bases l.stack l.open l.ones l.others (is_below_from l.fn.x l.fn.e l.fn.y l.fn.f) (size l.fn.e)

abbrev pub decreases-loop-one : goal.decreases-loop-one
decreases-loop-one l = sizes l.ones

abbrev pub decreases-are_nodes_below : goal.decreases-are_nodes_below
decreases-are_nodes_below l = size l.e
