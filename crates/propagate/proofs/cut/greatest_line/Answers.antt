use Rattle.propagate.proofs.Reached.{line_reached}
use Rattle.propagate.proofs.cut.greatest_line.Goals as goal

pub returns : goal.returns
returns c = line_reached c.args.chains.now.accepted c.args.failed.now c.in_ok-line.field-0 c.recall_lawful.ensures.folded c.in_ok-line.ensures
