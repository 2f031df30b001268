use Rattle.std.proofs.Common.{subst}
use Rattle.chains.specs.declared.prepared.Prepared.{Prepared}
use Rattle.chains.specs.Answers.{IsReady}
use Rattle.chains.proofs.Putting.{may_be_put}
use Rattle.chains.proofs.chains.Chains.commit.Goals as goal

pub accept-requires : goal.accept-requires
accept-requires c =
    may_be_put c.args.self.now c.in-Ready.ready c.recall_lawful.ensures.folded c.recall_lawful.ensures.known_at_most (subst (λ (x : Prepared). IsReady x c.args.self.now) c.in-Ready.is c.requires)
