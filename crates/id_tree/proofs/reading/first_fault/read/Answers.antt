use Rattle.std.proofs.Common.{arith}
use Rattle.std.proofs.lemmas.Result.{err_from_is_err_and}
use Rattle.id_tree.proofs.Runs.{reads_start, reads_on, run_fault, run_open, run_empty, run_whole}
use Rattle.id_tree.proofs.reading.first_fault.read.Goals as goal

pub loop-byte-init : goal.loop-byte-init
loop-byte-init c = reads_start _ _ c.new-halves.ensures.items

pub returns-in_err-last-clause-err : goal.returns-in_err-last-clause-err
returns-in_err-last-clause-err c =
    let p = err_from_is_err_and c.from_residual.result c.from_residual.ensures.1 in
    let r = c.loop-byte.invariant in
    rw (p.1, p.2) (run_fault c.in_err-last.field-0.0 r.state c.args.bytes.now c.loop-byte.byte-index c.loop-byte-test.true r.leads (c.in_err-last.ensures.err r.state r.shows))

pub loop-byte-preserved : goal.loop-byte-preserved
loop-byte-preserved c = reads_on _ _ _ _ _ _ c.loop-byte.invariant c.loop-byte-test.true (c.in_ok-last.ensures.ok c.loop-byte.invariant.state c.loop-byte.invariant.shows)

pub returns-then-len-gt0-clause-err : goal.returns-then-len-gt0-clause-err
returns-then-len-gt0-clause-err c = run_open _ _ _ _ c.loop-byte.invariant (omega arith) (omega arith)

pub returns-in-Some-clause-ok : goal.returns-in-Some-clause-ok
returns-in-Some-clause-ok c = run_whole _ _ _ _ _ c.loop-byte.invariant (omega arith) c.in-Some.is (omega arith)

pub returns-clause-err : goal.returns-clause-err
returns-clause-err c = run_empty _ _ _ _ c.loop-byte.invariant c.in-None.is (omega arith)
