use Rattle.std.specs.Prelude.{◌+◌, ◌*◌}
use Rattle.event_tree.specs.Size.{size}
use Rattle.event_tree.proofs.joins.by_place.+joined.Given as goal

abbrev pub decreases-joined_into : goal.decreases-joined_into
decreases-joined_into l = 2 * size l.e + 1

abbrev pub decreases-joined_in_halves : goal.decreases-joined_in_halves
decreases-joined_in_halves l = 2 * size l.e
