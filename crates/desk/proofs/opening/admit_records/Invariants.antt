use Rattle.std.proofs.Common.{take}
use Rattle.record_file.specs.Kept.{said_in}
use Rattle.chains.specs.Held.{held_of}
use Rattle.desk.specs.Records.{Opens}
use Rattle.desk.proofs.opening.admit_records.Given as goal

abbrev pub invariant-loop-i : goal.invariant-loop-i
invariant-loop-i l = Opens (said_in (take l.i l.records)) (held_of l.chains)
