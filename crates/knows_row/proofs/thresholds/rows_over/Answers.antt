use Rattle.std.proofs.Common.{◌-◌, [], ◌∙◌, arith}
use Rattle.std.proofs.lemmas.List.{get_or_default}
use Rattle.knows_row.proofs.Thresholding.{rows_more}
use Rattle.knows_row.proofs.thresholds.rows_over.Goals as goal

pub loop-width-preserved : goal.loop-width-preserved
loop-width-preserved c =
    let rows = c.loop-width.rows.items in
    let some = c.loop-width.invariant.some in
    rw (c.in_ok-push-2.ensures.items, c.len-width-in-loop-width.ensures)
    (rows_more rows c.args.row c.index.result.now c.in_ok-next.next c.loop-width.width (c.len.result - 1) c.loop-width.invariant (omega (arith, some, c.len.ensures, c.loop-width.rows.ok.0))
    (c.index.ensures ∙ get_or_default rows (c.len.result - 1) c.index.result.now [] (omega (arith, some, c.len.ensures, c.loop-width.rows.ok.0))) c.in_ok-next.ensures)
