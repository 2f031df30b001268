use Rattle.std.proofs.Common.{◌≡◌, List, ◌++◌, take}
use Rattle.record_file.specs.File.{Said}
use Rattle.record_file.specs.Store.{disk_of, found_records, is_stopped, HasRecords}
use Rattle.desk.specs.Records.{recorded}
use Rattle.desk.proofs.renewing.add_turns.Given as goal

abbrev pub invariant-loop-turn : goal.invariant-loop-turn
invariant-loop-turn g l = record {
  found : found_records l.store ≡ found_records l.fn.store ++ recorded (take l.turn-index l.turns);
  disk : disk_of l.store ≡ disk_of l.fn.store;
  stopped : is_stopped l.store ≡ is_stopped l.fn.store;
  rests : (said : List Said) → HasRecords g.D.Disk.view l.fn.store said → HasRecords g.D.Disk.view l.store said;
}
