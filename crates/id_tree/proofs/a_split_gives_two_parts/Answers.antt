use Rattle.id_tree.proofs.Splits.{split_of, normal_parts}
use Rattle.id_tree.proofs.a_split_gives_two_parts.Goals as goal

pub returns-clause-split : goal.returns-clause-split
returns-clause-split c = split_of

pub returns-clause-normal : goal.returns-clause-normal
returns-clause-normal c = normal_parts
