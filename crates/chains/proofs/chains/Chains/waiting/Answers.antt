use Rattle.chains.proofs.Partners.{unknown_waits}
use Rattle.chains.proofs.chains.Chains.waiting.Goals as goal

pub returns-in-None : goal.returns-in-None
returns-in-None c = unknown_waits c.args.self.now.accepted c.args.retired.now c.args.target.now c.recall_lawful.ensures.folded c.in-None.ensures
