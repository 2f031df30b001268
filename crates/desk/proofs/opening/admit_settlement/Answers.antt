use Rattle.std.proofs.Common.{refl, ◌∙◌}
use Rattle.chains.specs.Held.{held_of}
use Rattle.desk.proofs.Passing.{tested}
use Rattle.desk.proofs.Admitting.{refuses_settlement}
use Rattle.desk.proofs.opening.admit_settlement.Goals as goal

pub returns-in-Err-clause-err : goal.returns-in-Err-clause-err
returns-in-Err-clause-err c =
    refuses_settlement (held_of c.args.chains.now) c.args.number c.args.epoch c.args.front c.args.names.now c.args.names.now c.in-Err.refusal c.fault_of.result
    (c.if-epoch.false ∙ c.epoch.ensures) refl c.in-Err.ensures.err c.fault_of.ensures

pub settle_named-requires-clause-known : goal.settle_named-requires-clause-known
settle_named-requires-clause-known c =
    (tested (held_of c.args.chains.now) c.args.front c.args.names.now c.in-Ok.ensures.ok).all_known

pub returns-in-Ok-settle_named-clause-ok : goal.returns-in-Ok-settle_named-clause-ok
returns-in-Ok-settle_named-clause-ok c = (
  c.if-epoch.false ∙ c.epoch.ensures,
  c.in-Ok.ensures.ok,
  c.in-Ok-settle_named.ensures,
)
