use Rattle.std.proofs.Common.{refl}
use Rattle.id_tree.proofs.Equal.{equal_marks}
use Rattle.id_tree.proofs.marks.are_same.Goals as goal

pub returns : goal.returns
returns c = equal_marks _ _ _ _ (record { zero = refl; one = refl; pair = refl; zero_one = refl; zero_pair = refl; one_zero = refl; one_pair = refl; pair_zero = refl; pair_one = refl }) c.eq.ensures
