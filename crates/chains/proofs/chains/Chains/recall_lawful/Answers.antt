use Rattle.chains.proofs.Reaching.{parts_of_all, never_fall}
use Rattle.chains.proofs.chains.Chains.recall_lawful.Goals as goal

pub returns-clause-parts : goal.returns-clause-parts
returns-clause-parts c = rw (← c.self.view_is) (parts_of_all c.self.inside.reports.items c.self.invariant.fields.folded)

pub returns-clause-rising : goal.returns-clause-rising
returns-clause-rising c = rw (← c.self.view_is) (never_fall c.self.inside.reports.items c.self.invariant.fields.folded)
