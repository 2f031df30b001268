use Rattle.std.proofs.lemmas.Result.{IfErr-weaker}
use Rattle.chains.specs.Held.{held_of}
use Rattle.desk.proofs.Admitting.{refuses_record}
use Rattle.desk.proofs.opening.admit_record.Goals as goal

pub returns-clause-err : goal.returns-clause-err
returns-clause-err c =
    IfErr-weaker c.admit_call.result _ _
    (λ fault refused. refuses_record c.args.epoch c.args.line.now c.in_ok-call.call c.in_ok-call.ensures.ok.1 c.in_ok-call.ensures.ok.0 (held_of c.args.chains.now) c.args.number fault refused)
    c.admit_call.ensures.err
