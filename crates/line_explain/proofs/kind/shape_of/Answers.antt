use Rattle.line_explain.proofs.MarkedWords.{shape_either}
use Rattle.line_explain.proofs.kind.shape_of.Goals as goal

pub returns-in-None : goal.returns-in-None
returns-in-None c = shape_either c.marked_shape.result c.args.kind.now c.in-None.ensures c.marked_shape.ensures
