use Rattle.std.proofs.Common.{ℕ, ◌+◌, ◌-◌, List, drop, sym, ◌∙◌, ap, arith}
use Rattle.line_disk.specs.working.Noting.{noted_calls}
use Rattle.line_disk.specs.Replay.{image_at}
use Rattle.line_disk.specs.declared.change.Noted.{Noted}
use Rattle.line_disk.proofs.NotedCalls.{next_noted, stops_before, stops_inside, goes_past}
use Rattle.line_disk.proofs.image.image_of.Goals as goal

pub returns-then-left-call : goal.returns-then-left-call
returns-then-left-call c =
    let loop = c.loop-call in
    let call = c.call-item.result in
    let all = c.args.noted.now in
    let later = drop (loop.call-index + 1) all in
    sym (loop.invariant
    ∙ ap (λ (l : List Noted). image_at loop.file.items (noted_calls l) loop.left c.args.n) (next_noted all loop.call-index call c.loop-call-test.true c.call-item.is)
    ∙ stops_before loop.file.items call later loop.left c.args.n c.if-left-call.true)

pub returns-then-left-eq0 : goal.returns-then-left-eq0
returns-then-left-eq0 c =
    let loop = c.loop-call in
    let call = c.call-item.result in
    let all = c.args.noted.now in
    let later = drop (loop.call-index + 1) all in
    c.in_ok-redo_part.ensures
    ∙ sym (loop.invariant
    ∙ ap (λ (l : List Noted). image_at loop.file.items (noted_calls l) loop.left c.args.n) (next_noted all loop.call-index call c.loop-call-test.true c.call-item.is)
    ∙ stops_inside loop.file.items call later loop.left c.args.n (omega (arith, c.if-left-call.false)) c.if-left-eq0.true)

pub loop-call-preserved : goal.loop-call-preserved
loop-call-preserved c =
    let loop = c.loop-call in
    let call = c.call-item.result in
    let all = c.args.noted.now in
    let later = drop (loop.call-index + 1) all in
    loop.invariant
    ∙ ap (λ (l : List Noted). image_at loop.file.items (noted_calls l) loop.left c.args.n) (next_noted all loop.call-index call c.loop-call-test.true c.call-item.is)
    ∙ goes_past loop.file.items call later loop.left c.args.n (omega (arith, c.if-left-call.false, c.if-left-eq0.false))
    ∙ ap (λ (f : List ℕ). image_at f (noted_calls later) (loop.left - call.idle - 1) c.args.n) (sym c.in_ok-redo.ensures)
