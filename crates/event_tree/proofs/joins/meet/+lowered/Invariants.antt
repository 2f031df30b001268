use Rattle.std.specs.Prelude.{◌+◌, ◌*◌}
use Rattle.event_tree.specs.Size.{size}
use Rattle.event_tree.proofs.joins.meet.+lowered.Given as goal

abbrev pub decreases-lowered_into : goal.decreases-lowered_into
decreases-lowered_into l = 2 * size l.f + 1

abbrev pub decreases-lowered_in_halves : goal.decreases-lowered_in_halves
decreases-lowered_in_halves l = 2 * size l.f
