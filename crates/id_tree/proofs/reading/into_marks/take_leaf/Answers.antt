use Rattle.id_tree.proofs.Takes.{no_tree}
use Rattle.id_tree.proofs.reading.into_marks.take_leaf.Goals as goal

pub returns-in-None-behind-clause-err : goal.returns-in-None-behind-clause-err
returns-in-None-behind-clause-err c = no_tree c.args.text.now c.requires c.in-None.ensures c.in-None-behind.ensures
