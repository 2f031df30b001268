use Rattle.std.proofs.lemmas.Result.{IfOk-weaker}
use Rattle.law_process.proofs.Calls.{first_is_newest}
use Rattle.law_process.proofs.accounted.root.Goals as goal

pub returns-clause-newest : goal.returns-clause-newest
returns-clause-newest c = IfOk-weaker c.root.result _ _ (λ begun is. first_is_newest c.args.name.now begun.0 is) c.root.ensures.process
