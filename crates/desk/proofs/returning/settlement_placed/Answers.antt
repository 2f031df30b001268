use Rattle.std.proofs.Common.{sym, ◌∙◌}
use Rattle.record_file.specs.Store.{is_stopped}
use Rattle.desk.proofs.Accepting.{refused_settlement_beside}
use Rattle.desk.proofs.returning.settlement_placed.Goals as goal

pub return_all-requires-clause-passes : goal.return_all-requires-clause-passes
return_all-requires-clause-passes g c = c.in-Ok.ensures.ok

pub returns-in-Err-clause-turn : goal.returns-in-Err-clause-turn
returns-in-Err-clause-turn g c =
    refused_settlement_beside c.args.chains.now (is_stopped c.args.store.now) c.args.front c.args.names.now c.in-Err.refusal c.refused_by.result (sym c.stopped.ensures ∙ c.if-stopped.false)
    c.in-Err.ensures.err c.refused_by.ensures
