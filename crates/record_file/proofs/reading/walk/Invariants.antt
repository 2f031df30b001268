use Rattle.std.proofs.Common.{◌<◌, ◌-◌, ℕ, List, ◌++◌, length, drop}
use Rattle.record_file.specs.Reading.{IsSoFar}
use Rattle.record_file.specs.Kept.{said_in}
use Rattle.record_file.proofs.reading.walk.Given as goal

abbrev pub invariant-loop-at : goal.invariant-loop-at
invariant-loop-at l = record {
  inside : l.at < length l.bytes;
  so_far : (file behind : List ℕ) → IsSoFar l.version file (said_in l.fn.records.items) (l.bytes ++ behind) → IsSoFar l.version file (said_in l.records.items) (drop l.at l.bytes ++ behind);
}

abbrev pub decreases-loop-at : goal.decreases-loop-at
decreases-loop-at l = length l.bytes - l.at
