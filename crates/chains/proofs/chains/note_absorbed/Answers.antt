use Rattle.std.proofs.Common.{true, refl, sym, arith}
use Rattle.chains.specs.declared.process.Process.{Process}
use Rattle.chains.specs.working.Noting.{taken}
use Rattle.chains.proofs.Noted.{changed, taken_there, taken_nowhere}
use Rattle.chains.proofs.chains.note_absorbed.Goals as goal

pub returns-in-Some : goal.returns-in-Some
returns-in-Some c =
    let old = c.index_mut-kept.result.now in
    let new : Process = record { reports = old.reports; last = old.last; birth = old.birth; stable = old.stable; same_id_from = old.same_id_from; absorbed = true } in
    taken_there c.args.names.now.keys _ _ c.args.retired.now c.in-Some.place (sym c.in-Some.ensures.index) (changed c.args.processes.now.items c.in-Some.place old new taken (omega (arith, c.in-Some.ensures.within, c.requires)) c.index_mut-kept.ensures.value refl)

pub returns-in-None : goal.returns-in-None
returns-in-None c = taken_nowhere c.args.names.now.keys _ c.args.retired.now (sym c.in-None.ensures.index) (sym c.in-None.ensures.found)
