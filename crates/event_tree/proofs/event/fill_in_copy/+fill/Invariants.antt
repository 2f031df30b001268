use Rattle.std.specs.Prelude.{◌+◌, ◌*◌}
use Rattle.id_tree.specs.IdTree.{Pair}
use Rattle.id_tree.specs.NormalForm.{depth}
use Rattle.event_tree.proofs.event.fill_in_copy.+fill.Given as goal

abbrev pub decreases-fill_at : goal.decreases-fill_at
decreases-fill_at l = 2 * depth l.id.now + 1

abbrev pub decreases-fill_halves : goal.decreases-fill_halves
decreases-fill_halves l = 2 * depth (Pair l.l.now l.r.now)
