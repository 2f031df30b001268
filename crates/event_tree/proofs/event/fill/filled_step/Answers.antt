use Rattle.event_tree.proofs.Steps.{filled_tells}
use Rattle.event_tree.proofs.event.fill.filled_step.Goals as goal

pub returns : goal.returns
returns c = filled_tells c.args.id.now c.args.e.now _ _ c.requires.normal c.requires.tree_normal c.view.ensures c.requires.other c.requires.fits c.in_ok-filled.ensures
