use Rattle.knows_row.proofs.Looking.{need_from_beyond}
use Rattle.knows_row.proofs.need.Goals as goal

pub returns-in-Some : goal.returns-in-Some
returns-in-Some c =
    need_from_beyond c.args.chains.now.accepted c.args.place c.args.process c.len.result c.last_beyond.result c.in-Some.events.now c.elements-elements.result c.elements-elements.ensures c.len.ensures.count c.in-Some.ensures.0 c.in-Some.ensures.2 c.last_beyond.ensures
