use Rattle.std.proofs.Common.{◌≡◌, ◌≢◌, length, sym, ◌∙◌, [], arith, Some, None}
use Rattle.std.proofs.lemmas.Grind.{common_steps}
use Rattle.std.proofs.lemmas.List.{nil_from_length}
use Rattle.std.proofs.lemmas.Result.{err_from_is_err_and}
use Rattle.event_tree.specs.working.Reading.{verdict_shown}
use Rattle.event_tree.proofs.Runs.{run_next, read_fault, reading_open, reading_closed}
use Rattle.event_tree.proofs.reading.first_fault.read.Goals as goal

pub returns-in_err-take-clause-err : goal.returns-in_err-take-clause-err
returns-in_err-take-clause-err c =
    let p = err_from_is_err_and c.from_residual.result c.from_residual.ensures.1 in
    rw (p.1, p.2) (read_fault c.in_err-take.field-0.0 _ c.args.bytes.now c.loop-byte.byte-index c.loop-byte-test.true c.loop-byte.invariant c.in_err-take.ensures.err)

pub loop-byte-preserved : goal.loop-byte-preserved
loop-byte-preserved c = sym (run_next _ _ c.args.bytes.now c.loop-byte.byte-index c.loop-byte-test.true c.in_ok-take.ensures.ok) ∙ c.loop-byte.invariant

pub returns-then-not-is_empty-clause-err : goal.returns-then-not-is_empty-clause-err
returns-then-not-is_empty-clause-err c =
    let some : length c.loop-byte.stack.items ≢ 0 = λ h. grind (arith, common_steps) in
    reading_open c.loop-byte.stack.items c.loop-byte.last c.args.bytes.now c.loop-byte.byte-index some (omega arith) c.loop-byte.invariant

pub returns-in-Some-clause-ok : goal.returns-in-Some-clause-ok
returns-in-Some-clause-ok c =
    let none : c.loop-byte.stack.items ≡ [] = nil_from_length _ (grind arith) in
    reading_closed c.loop-byte.stack.items c.loop-byte.last (Some (verdict_shown c.in-Some.part)) c.args.bytes.now c.loop-byte.byte-index none c.in-Some.ensures (omega arith) c.loop-byte.invariant

pub returns-clause-err : goal.returns-clause-err
returns-clause-err c =
    let none : c.loop-byte.stack.items ≡ [] = nil_from_length _ (grind arith) in
    reading_closed c.loop-byte.stack.items c.loop-byte.last None c.args.bytes.now c.loop-byte.byte-index none c.in-None.ensures (omega arith) c.loop-byte.invariant
