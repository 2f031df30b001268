use Rattle.std.proofs.Common.{arith}
use Rattle.record_show.specs.Json.{record_json}
use Rattle.record_show.proofs.Counting.{one_more_said, all_said}
use Rattle.record_show.proofs.json.push_each_record.Goals as goal

pub loop-i-preserved : goal.loop-i-preserved
loop-i-preserved c =
    one_more_said record_json c.args.records.now c.loop-i.i c.index-records-i.result _ _ _ (omega (arith, c.loop-i-test.true)) c.index-records-i.is c.loop-i.invariant c.in_ok-push_record.ensures

pub returns : goal.returns
returns c = all_said record_json c.args.records.now c.loop-i.i _ _ (omega arith) c.loop-i.invariant
