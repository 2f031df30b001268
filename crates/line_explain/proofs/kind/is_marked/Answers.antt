use Rattle.line_explain.proofs.MarkedWords.{marked_yes, marked_no}
use Rattle.line_explain.proofs.kind.is_marked.Goals as goal

pub returns-in-Some-shape_of : goal.returns-in-Some-shape_of
returns-in-Some-shape_of c = marked_yes c.args.kind.now c.in-Some.word.now c.in-Some.field-0-1.now c.in-Some-shape_of.field-0 c.in-Some.ensures.0 c.in-Some.ensures.1 c.in-Some-shape_of.ensures

pub returns-in-None : goal.returns-in-None
returns-in-None c = marked_no c.args.kind.now c.in-Some.word.now c.in-Some.field-0-1.now c.in-Some.ensures.0 c.in-Some.ensures.1 c.in-None.ensures
