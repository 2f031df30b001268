use Rattle.id_tree.proofs.Sums.{together, normal}
use Rattle.id_tree.proofs.a_sum_owns_what_either_owns.Goals as goal

pub returns-clause-together : goal.returns-clause-together
returns-clause-together c = together

pub returns-clause-normal : goal.returns-clause-normal
returns-clause-normal c = normal
