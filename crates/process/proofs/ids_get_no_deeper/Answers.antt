use Rattle.process.proofs.Depths.{leaf_is_as_deep, stays_behind_a_fork, stays_behind_an_absorption}
use Rattle.process.proofs.ids_get_no_deeper.Goals as goal

pub returns : goal.returns
returns c = record { leaf = leaf_is_as_deep; fork = stays_behind_a_fork; absorption = stays_behind_an_absorption }
