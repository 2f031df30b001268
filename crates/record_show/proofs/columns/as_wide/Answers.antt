use Rattle.std.proofs.Common.{arith}
use Rattle.record_show.proofs.Widths.{width_more}
use Rattle.record_show.proofs.columns.as_wide.Goals as goal

pub loop-process-preserved : goal.loop-process-preserved
loop-process-preserved c =
    width_more c.args.processes.now c.loop-process.process-index c.process-item.result c.args.column _ _ (omega (arith, c.loop-process-test.true)) c.process-item.is c.loop-process.invariant (rw c.cell_width.ensures at c.max-width.ensures)
