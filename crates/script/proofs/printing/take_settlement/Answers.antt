use Rattle.chains.specs.Held.{held_of}
use Rattle.script.proofs.Settled.{known_then, passed_over}
use Rattle.script.proofs.printing.take_settlement.Goals as goal

pub return_all-requires-clause-known : goal.return_all-requires-clause-known
return_all-requires-clause-known c =
    known_then (held_of c.args.chains.now) c.args.front c.args.names.now c.in-Ok.ensures.ok

pub returns-in-Err : goal.returns-in-Err
returns-in-Err c =
    passed_over (held_of c.args.chains.now) c.args.front c.args.names.now c.in-Err.refusal c.pass_over.result c.pass_over.ensures
    c.in-Err.ensures.err
