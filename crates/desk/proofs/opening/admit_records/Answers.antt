use Rattle.std.proofs.Common.{[], arith, sym, subst}
use Rattle.std.proofs.lemmas.Result.{err_from_is_err_and}
use Rattle.chains.specs.Held.{held_of}
use Rattle.desk.specs.Records.{Opens, no_records}
use Rattle.desk.proofs.Admitting.{opens_next, refuses_records}
use Rattle.desk.proofs.opening.admit_records.Goals as goal

pub loop-i-init : goal.loop-i-init
loop-i-init c = subst (Opens []) (sym c.new-chains.ensures) no_records

pub returns-in_err-admit_record-clause-err : goal.returns-in_err-admit_record-clause-err
returns-in_err-admit_record-clause-err c =
    let p = err_from_is_err_and c.from_residual.result c.from_residual.ensures.1 in
    rw (p.1, p.2) (refuses_records c.args.records.now c.loop-i.i c.index-records-i.result (held_of c.loop-i.chains) (omega arith) c.index-records-i.is c.loop-i.invariant c.in_err-admit_record.field-0.0
    (rw c.deref.ensures.value at c.in_err-admit_record.ensures.err))

pub loop-i-preserved : goal.loop-i-preserved
loop-i-preserved c =
    opens_next c.args.records.now c.loop-i.i c.index-records-i.result (held_of c.loop-i.chains) (omega arith) c.index-records-i.is c.loop-i.invariant _ (rw c.deref.ensures.value at c.in_ok-admit_record.ensures.ok)
