use Rattle.std.specs.Prelude.{◌+◌, ◌*◌}
use Rattle.event_tree.specs.Size.{size}
use Rattle.event_tree.proofs.joins.by_place.+raised.Given as goal

abbrev pub decreases-raised_into : goal.decreases-raised_into
decreases-raised_into l = 2 * size l.f + 1

abbrev pub decreases-raised_in_halves : goal.decreases-raised_in_halves
decreases-raised_in_halves l = 2 * size l.f
