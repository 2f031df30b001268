use Rattle.chains.proofs.FirstUnknown.{none_first}
use Rattle.propagate.proofs.settlement.settle_named.Goals as goal

pub unreachable-requires : goal.unreachable-requires
unreachable-requires c =
    let first = rw (c.in-Err-Unknown.is, c.in-Err-Unknown.field-0-is) at c.from_names.ensures in
    none_first c.args.chains.now.accepted c.args.names.now c.in-Err-Unknown.field-0-0 c.requires.known first
