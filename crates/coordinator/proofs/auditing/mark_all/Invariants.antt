use Rattle.std.proofs.Common.{take}
use Rattle.coordinator.specs.Closing.{entries_of}
use Rattle.coordinator.specs.working.Marks.{IsMarked, AreOwned}
use Rattle.coordinator.proofs.auditing.mark_all.Given as goal

abbrev pub invariant-loop-place : goal.invariant-loop-place
invariant-loop-place g l = IsMarked l.turns l.marks (entries_of (take l.place l.passes)) × AreOwned l.turns l.passes l.marks l.owners l.place 0
