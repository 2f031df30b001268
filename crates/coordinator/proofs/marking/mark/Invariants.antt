use Rattle.std.proofs.Common.{◌++◌, take}
use Rattle.coordinator.specs.Closing.{entries_of}
use Rattle.coordinator.specs.working.Marks.{IsMarked, AreOwned}
use Rattle.coordinator.proofs.marking.mark.Given as goal

abbrev pub invariant-loop-k : goal.invariant-loop-k
invariant-loop-k g l = IsMarked l.turns l.marks (entries_of (take l.place l.passes) ++ take l.k l.entries) × AreOwned l.turns l.passes l.marks l.owners l.place l.k
