-- `go_on_to_end`: the next desk, the end, or why it stopped.
use Rattle.recline.proofs.lasting.go_on_to_end.Goals as goal

pub loop-preserved : goal.loop-preserved
loop-preserved g c =
    let fresh = rw c.in-Ok-Ok.field-0-is at c.in-Ok-Ok.ensures.fresh in
    let on = rw c.in-Ok-Ok.field-0-is at c.in-Ok-Ok.ensures.next in
    (fresh, (λ first next. on first (c.loop.invariant.1 first next)), tt, tt)

pub returns-in-Ok-Err : goal.returns-in-Ok-Err
returns-in-Ok-Err g c = λ first next.
    let ended = rw c.in-Ok-Err.field-0-is at c.in-Ok-Err.ensures.ended in
    ended first (c.loop.invariant.1 first next)

pub returns-in-Err : goal.returns-in-Err
returns-in-Err g c = λ first next. c.in-Err.ensures.stopped first (c.loop.invariant.1 first next)
