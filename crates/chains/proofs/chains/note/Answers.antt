use Rattle.std.proofs.Common.{◌+◌, Some, refl}
use Rattle.chains.specs.declared.process.Process.{Process}
use Rattle.chains.specs.working.Noting.{noted}
use Rattle.chains.proofs.Noted.{changed, noted_stable, noted_other}
use Rattle.chains.proofs.chains.note.Goals as goal

pub returns-then-lasts-clause-views : goal.returns-then-lasts-clause-views
returns-then-lasts-clause-views c =
    let old = c.index_mut-kept.result.now in
    let new : Process = record { reports = old.reports + 1; last = Some c.args.index; birth = old.birth; stable = c.push_reserved.new.self; same_id_from = c.args.same_id_from; absorbed = old.absorbed } in
    changed c.args.processes.now.items c.args.place old new (noted c.args.index c.args.same_id_from c.args.lasts) c.requires.within c.index_mut-kept.ensures.value (noted_stable c.args.index c.args.same_id_from c.args.lasts old new c.if-lasts.true refl refl refl refl c.push_reserved.ensures.items refl)

pub returns-else-lasts-clause-views : goal.returns-else-lasts-clause-views
returns-else-lasts-clause-views c =
    let old = c.index_mut-kept.result.now in
    let new : Process = record { reports = old.reports + 1; last = Some c.args.index; birth = old.birth; stable = old.stable; same_id_from = c.args.same_id_from; absorbed = old.absorbed } in
    changed c.args.processes.now.items c.args.place old new (noted c.args.index c.args.same_id_from c.args.lasts) c.requires.within c.index_mut-kept.ensures.value (noted_other c.args.index c.args.same_id_from c.args.lasts old new c.if-lasts.false refl refl refl refl refl refl)
