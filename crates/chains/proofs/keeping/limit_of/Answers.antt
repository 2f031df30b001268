use Rattle.chains.proofs.LineLimits.{limit_there, limit_of_none}
use Rattle.chains.proofs.keeping.limit_of.Goals as goal

pub returns-in-None : goal.returns-in-None
returns-in-None c = limit_of_none c.args.chains.now.accepted c.args.limits.now c.args.name.now c.in-None.ensures

pub returns-in-Some : goal.returns-in-Some
returns-in-Some c = limit_there c.args.chains.now.accepted c.args.limits.now c.in-Some.process c.args.name.now c.recall_lawful.ensures.folded c.in-Some.ensures
