use Rattle.std.proofs.Common.{rules}
use Rattle.process.proofs.LeafParts.{parts_leaf, parted_once, not_deep}
use Rattle.process.proofs.carving.part_once.Goals as goal

pub deeper_last-requires : goal.deeper_last-requires
deeper_last-requires c = parts_leaf c.args.id.now c.in-Ok.left c.in-Ok.right c.args.depth c.requires c.in-Ok.ensures.left c.in-Ok.ensures.right

pub unreachable-requires-in-Err-TooDeep : goal.unreachable-requires-in-Err-TooDeep
unreachable-requires-in-Err-TooDeep c = not_deep c.args.id.now c.args.depth c.requires c.recall_facts.ensures.shallow (search rules)

pub returns-in-Ok : goal.returns-in-Ok
returns-in-Ok c =
    parted_once c.args.id.now c.in-Ok.left c.in-Ok.right c.deeper_last.result.0 c.deeper_last.result.1 c.args.depth
    c.requires c.in-Ok.ensures.left c.in-Ok.ensures.right c.in-Ok.ensures.split c.deeper_last.ensures
