use Rattle.id_tree.proofs.Points.{equal_points}
use Rattle.id_tree.proofs.ids_with_equal_points_are_equal.Goals as goal

pub returns : goal.returns
returns c = equal_points
