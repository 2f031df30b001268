use Rattle.std.specs.Prelude.{◌+◌, ◌*◌}
use Rattle.event_tree.specs.Size.{size}
use Rattle.event_tree.proofs.joins.meet.+met.Given as goal

abbrev pub decreases-met_into : goal.decreases-met_into
decreases-met_into l = 2 * size l.e + 1

abbrev pub decreases-met_in_halves : goal.decreases-met_in_halves
decreases-met_in_halves l = 2 * size l.e
