use Rattle.chains.specs.Held.{held_of}
use Rattle.desk.proofs.Passing.{tested}
use Rattle.coordinator.proofs.replaying.settle_again.Goals as goal

pub settle_named-requires-clause-known : goal.settle_named-requires-clause-known
settle_named-requires-clause-known c =
    (tested (held_of c.args.chains.now) c.front.result c.args.names.now c.in-Ok.ensures.ok).all_known
