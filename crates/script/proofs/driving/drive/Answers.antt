use Rattle.std.proofs.Common.{◌+◌, arith, refl}
use Rattle.script.proofs.Front.{no_line, stopped_first, stopped, first_taken, next_taken, few}
use Rattle.script.proofs.driving.drive.Goals as goal

pub returns-in_default : goal.returns-in_default
returns-in_default c = rw c.new.ensures.items (no_line c.args.script.now c.in_default.ensures)

pub returns-in-Err : goal.returns-in-Err
returns-in-Err c =
    rw (c.new-in-Err.ensures.items, c.end_by.ensures) (stopped_first c.args.script.now c.in-Some.first.now c.in-Some.behind.now c.in-Err.stop c.in-Some.ensures.0 c.in-Some.ensures.1 c.in-Err.ensures)

pub loop-line-init : goal.loop-line-init
loop-line-init c =
    first_taken c.args.script.now c.in-Some.first.now c.in-Some.behind.now c.in-Ok.begun.1 c.in-Ok.begun.0 c.in-Some.ensures.0 c.in-Some.ensures.1 c.in-Ok.ensures

pub overflow_add-taken : goal.overflow_add-taken
overflow_add-taken c =
    let within = few c.args.script.now c.loop-line.rest.now c.in-Some-cut_line.line.now c.in-Some-cut_line.behind.now c.loop-line.printout c.loop-line.world c.loop-line.taken c.loop-line.invariant c.in-Some-cut_line.ensures.1 in
    omega (arith, within)

pub returns-in-Err-go_on : goal.returns-in-Err-go_on
returns-in-Err-go_on c =
    rw c.end_by-in-Err-go_on.ensures
    (stopped c.args.script.now c.loop-line.rest.now c.in-Some-cut_line.line.now c.in-Some-cut_line.behind.now c.text_of.result.items c.loop-line.printout c.go_on.new.printout c.loop-line.world c.loop-line.taken (c.loop-line.taken + 1)
    c.in-Err-go_on.stop c.loop-line.invariant c.in-Some-cut_line.ensures.0 c.in-Some-cut_line.ensures.1 c.text_of.ensures c.in-Err-go_on.ensures.0 c.in-Err-go_on.ensures.1 refl)

pub loop-line-preserved : goal.loop-line-preserved
loop-line-preserved c =
    next_taken c.args.script.now c.loop-line.rest.now c.in-Some-cut_line.line.now c.in-Some-cut_line.behind.now c.loop-line.printout c.go_on.new.printout c.loop-line.world c.go_on.new.world c.loop-line.taken
    c.loop-line.invariant c.in-Some-cut_line.ensures.0 c.in-Some-cut_line.ensures.1 c.in-Ok-go_on.ensures
