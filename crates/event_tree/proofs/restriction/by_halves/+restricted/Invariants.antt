use Rattle.std.specs.Prelude.{◌+◌, ◌*◌, max}
use Rattle.id_tree.specs.NormalForm.{depth}
use Rattle.event_tree.proofs.restriction.by_halves.+restricted.Given as goal

abbrev pub decreases-restricted_into : goal.decreases-restricted_into
decreases-restricted_into l = 2 * depth l.id

abbrev pub decreases-restricted_in_halves : goal.decreases-restricted_in_halves
decreases-restricted_in_halves l = 2 * max (depth l.l) (depth l.r) + 1
