use Rattle.std.proofs.Common.{refl, length, ◌<◌}
use Rattle.chains.specs.declared.process.Process.{Process}
use Rattle.chains.proofs.Reserved.{kept_same, has_place}
use Rattle.chains.proofs.chains.reserve_element.Goals as goal

pub returns-in-Some-clause-views : goal.returns-in-Some-clause-views
returns-in-Some-clause-views c =
    let old = c.index_mut-kept.result.now in
    let new : Process = record { reports = old.reports; last = old.last; birth = old.birth; stable = c.reserve.new.self; same_id_from = old.same_id_from; absorbed = old.absorbed } in
    kept_same c.args.processes.now.items c.in-Some.place old new c.index_mut-kept.ensures.value (rw c.reserve.ensures.items refl)

pub returns-in-Some-clause-room : goal.returns-in-Some-clause-room
returns-in-Some-clause-room c =
    let old = c.index_mut-kept.result.now in
    let new : Process = record { reports = old.reports; last = old.last; birth = old.birth; stable = c.reserve.new.self; same_id_from = old.same_id_from; absorbed = old.absorbed } in
    let within : c.in-Some.place < length c.args.processes.now.items = rw c.in-Some.is at c.requires in
    has_place c.args.processes.now.items c.args.number c.in-Some.place new c.reserve.result c.in-Some.is within c.reserve.ensures.ok
