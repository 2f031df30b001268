use Rattle.std.proofs.Common.{arith}
use Rattle.id_tree.proofs.Lengths.{twice_marks}
use Rattle.id_tree.proofs.text.text_length.Goals as goal

pub returns : goal.returns
returns c = omega (arith, twice_marks _ _ c.requires)
