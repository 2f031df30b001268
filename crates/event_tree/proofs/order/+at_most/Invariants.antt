use Rattle.std.specs.Prelude.{◌+◌, ◌*◌}
use Rattle.event_tree.specs.Size.{size}
use Rattle.event_tree.proofs.order.+at_most.Given as goal

abbrev pub decreases-is_at_most : goal.decreases-is_at_most
decreases-is_at_most l = 2 * size l.e + 1

abbrev pub decreases-are_halves_at_most : goal.decreases-are_halves_at_most
decreases-are_halves_at_most l = 2 * size l.e
