use Rattle.std.proofs.Common.{◌≡◌, ◌++◌, take}
use Rattle.record_file.specs.Kept.{said_in}
use Rattle.record_show.specs.Numbered.{numbered}
use Rattle.record_show.specs.Json.{record_json}
use Rattle.record_show.proofs.json.push_each_record.Given as goal

abbrev pub invariant-loop-i : goal.invariant-loop-i
invariant-loop-i l = l.out.items ≡ l.fn.out.items ++ numbered record_json 0 (take l.i (said_in l.records))
