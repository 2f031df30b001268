use Rattle.std.proofs.Common.{refl, sym, subst, List}
use Rattle.record_file.proofs.Appending.{at_rest_stands}
use Rattle.record_file.specs.File.{Said}
use Rattle.record_file.specs.Store.{found_records, HasRecords}
use Rattle.chains.specs.Held.{held_of}
use Rattle.desk.specs.Records.{Opens}
use Rattle.desk.proofs.Admitting.{refuses_file}
use Rattle.desk.proofs.Turning.{same_held, lawful_open, none_recorded}
use Rattle.desk.proofs.desk.Desk.open.Goals as goal

pub invariant_of-result : goal.invariant_of-result
invariant_of-result g c =
    let store = c.in-Ok-open.store in
    let both = c.in-Ok-chains_of in
    let opened = subst (λ (s : List Said). Opens s (held_of both.chains)) c.records.ensures both.ensures.ok in
    let ready = λ (keeps : _). c.in-Ok-open.ensures.ready (c.in-Ok-open.ensures.premise.0 keeps) in (
      lawful_open g.D.Disk.keeps g.D.Disk.view _ (same_held both.chains both.opening _ both.ensures.copy c.in-Ok-open.ensures.not_stopped) refl c.in-Ok.ensures.none
          (subst (Opens (found_records store)) (sym both.ensures.copy) opened) (λ keeps. at_rest_stands _ _ _ _ (ready keeps)),
      (λ runs keeps. subst (λ (s : List Said). HasRecords g.D.Disk.view store s) (sym (none_recorded (found_records store) _ c.in-Ok.ensures.none)) (ready keeps)),
      c.in-Ok.ensures.room,
    )

pub returns-in-Err-chains_of-clause-refused : goal.returns-in-Err-chains_of-clause-refused
returns-in-Err-chains_of-clause-refused g c = λ keeps.
    refuses_file _ (found_records c.in-Ok-open.store) c.in-Err-chains_of.fault (c.in-Ok-open.ensures.records keeps) (rw c.records.ensures at c.in-Err-chains_of.ensures.err)
