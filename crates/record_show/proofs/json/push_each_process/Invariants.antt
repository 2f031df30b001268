use Rattle.std.proofs.Common.{◌≡◌, ◌++◌, take}
use Rattle.record_show.specs.Numbered.{numbered}
use Rattle.record_show.specs.Json.{process_json}
use Rattle.record_show.proofs.json.push_each_process.Given as goal

abbrev pub invariant-loop-i : goal.invariant-loop-i
invariant-loop-i l = l.out.items ≡ l.fn.out.items ++ numbered process_json 0 (take l.i l.processes)
