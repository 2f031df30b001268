use Rattle.std.proofs.Common.{◌∙◌}
use Rattle.chains.proofs.Copying.{names_more}
use Rattle.chains.proofs.copies.copy_names.Goals as goal

pub loop-name-preserved : goal.loop-name-preserved
loop-name-preserved c =
    c.in-Ok.ensures.keys ∙ names_more c.args.names.now c.loop-name.copy.keys c.loop-name.name-index c.name-item.result c.copy.result c.requires c.loop-name-test.true c.name-item.is c.copy.ensures c.loop-name.invariant
