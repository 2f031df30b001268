use Rattle.std.specs.Prelude.{◌+◌, ◌*◌}
use Rattle.id_tree.proofs.reading.into_marks.+take.Given as goal

abbrev pub decreases-take_id : goal.decreases-take_id
decreases-take_id l = 2 * l.levels + 1

abbrev pub decreases-take_pair : goal.decreases-take_pair
decreases-take_pair l = 2 * l.levels
