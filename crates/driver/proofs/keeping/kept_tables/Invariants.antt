use Rattle.std.proofs.Common.{take}
use Rattle.std.specs.Prelude.{reverse}
use Rattle.std.specs.Str.{bytes_eq}
use Rattle.indexmap.specs.IndexMap.{get}
use Rattle.driver.specs.working.Keeping.{AreKept}
use Rattle.driver.specs.working.Marks.{cut_by}
use Rattle.driver.proofs.keeping.kept_tables.Given as goal

abbrev pub invariant-loop-i : goal.invariant-loop-i
invariant-loop-i l = AreKept l.old.root l.epoch (cut_by (get bytes_eq l.marks)) (reverse (take l.i l.old.steps.items)) l.tables
