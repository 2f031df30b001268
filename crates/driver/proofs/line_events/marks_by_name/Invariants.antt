use Rattle.std.proofs.Common.{◌≡◌, List, ℕ, take}
use Rattle.std.specs.Str.{bytes_eq}
use Rattle.indexmap.specs.IndexMap.{get}
use Rattle.driver.specs.Lines.{IsNamedOnce}
use Rattle.driver.specs.working.Marks.{named}
use Rattle.driver.proofs.line_events.marks_by_name.Given as goal

abbrev pub invariant-loop-x : goal.invariant-loop-x
invariant-loop-x l = IsNamedOnce (take l.x-index l.line) × ((p : List ℕ) → get bytes_eq l.marks p ≡ named (take l.x-index l.line) p)
