use Rattle.chains.specs.Held.{held_of, held_with}
use Rattle.record_file.specs.Store.{is_stopped}
use Rattle.desk.proofs.Accepting.{refused_by_turn, held_beside}
use Rattle.desk.proofs.placing.reported.Goals as goal

pub returns-in-Err-clause-turn : goal.returns-in-Err-clause-turn
returns-in-Err-clause-turn g c =
    refused_by_turn (held_of c.args.chains.now) (held_with c.prepare.new.chains (is_stopped c.args.store.now)) c.args.report.now c.in-Err.refusal c.refused_by.result c.in-Err.ensures.answer
    (held_beside c.prepare.new.chains c.args.chains.now (is_stopped c.args.store.now) c.requires.running c.prepare.ensures.unchanged) c.refused_by.ensures
