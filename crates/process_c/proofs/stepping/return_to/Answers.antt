use Rattle.std.proofs.lemmas.Result.{IfOk-weaker}
use Rattle.process_c.proofs.stepping.return_to.Goals as goal

pub returns-clause-ok : goal.returns-clause-ok
returns-clause-ok c =
    IfOk-weaker c.returned_to.result _ _ (λ v made. (made.0, made.1, (c.in_ok-kept.kept, c.in_ok-kept.ensures, made.2), made.3, made.4)) c.returned_to.ensures.ok
