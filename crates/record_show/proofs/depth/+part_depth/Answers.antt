use Rattle.std.proofs.Common.{ap, arith}
use Rattle.id_tree.specs.NormalForm.{depth}
use Rattle.record_show.proofs.depth.+part_depth.Goals as goal

pub part_depth-requires : goal.part_depth-requires
part_depth-requires t c =
    let deep = ap depth c.in-Halves.ensures in
    (omega (arith, deep, c.requires), omega (arith, deep))

pub part_depth-requires-in-Halves : goal.part_depth-requires-in-Halves
part_depth-requires-in-Halves t c =
    let deep = ap depth c.in-Halves.ensures in
    (omega (arith, deep, c.requires), omega (arith, deep))
