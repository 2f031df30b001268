use Rattle.knows_row.proofs.Looking.{last_none, last_from_beyond}
use Rattle.knows_row.proofs.last_known.Goals as goal

pub returns-in-None : goal.returns-in-None
returns-in-None c = last_none c.args.chains.now.accepted c.args.place c.args.process c.args.from c.args.to c.in-None.ensures

pub returns-in-Some : goal.returns-in-Some
returns-in-Some c =
    last_from_beyond c.args.chains.now.accepted c.args.place c.args.process c.args.from c.args.to c.last_beyond.result c.in-Some.events.now c.elements.result c.elements.ensures c.in-Some.ensures.0 c.in-Some.ensures.2 c.last_beyond.ensures
