use Rattle.std.proofs.Common.{◌≡◌, List, ℕ, take}
use Rattle.std.specs.Option.{option_map}
use Rattle.std.specs.Str.{bytes_eq}
use Rattle.indexmap.specs.IndexMap.{get}
use Rattle.driver.specs.working.Marks.{failing}
use Rattle.driver.proofs.line_events.mark_all_failed.Given as goal

abbrev pub invariant-loop-name : goal.invariant-loop-name
invariant-loop-name l = (p : List ℕ) → get bytes_eq l.marks p ≡ option_map (failing (take l.name-index l.failed) p) (get bytes_eq l.initial.marks p)
