use Rattle.std.proofs.Common.{arith, []}
use Rattle.record_show.specs.Lines.{record_line}
use Rattle.record_show.proofs.Counting.{one_more_said}
use Rattle.record_show.proofs.lines.to_lines.Goals as goal

pub loop-i-preserved : goal.loop-i-preserved
loop-i-preserved c =
    one_more_said record_line c.args.records.now c.loop-i.i c.index-records-i.result [] _ _ (omega (arith, c.loop-i-test.true)) c.index-records-i.is c.loop-i.invariant c.in_ok-push_record.ensures
