use Rattle.std.proofs.Common.{arith}
use Rattle.record_show.specs.Json.{process_json}
use Rattle.record_show.proofs.Counting.{one_more, all_taken}
use Rattle.record_show.proofs.json.push_each_process.Goals as goal

pub loop-i-preserved : goal.loop-i-preserved
loop-i-preserved c =
    one_more process_json c.args.processes.now c.loop-i.i c.index-processes-i.result _ _ _ (omega (arith, c.loop-i-test.true)) c.index-processes-i.is c.loop-i.invariant c.in_ok-push_process.ensures

pub returns : goal.returns
returns c = all_taken process_json c.args.processes.now c.loop-i.i _ _ (omega arith) c.loop-i.invariant
