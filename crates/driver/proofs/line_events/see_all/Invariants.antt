use Rattle.std.proofs.Common.{◌≡◌, List, ℕ, take}
use Rattle.std.specs.Prelude.{reverse}
use Rattle.std.specs.Option.{option_map}
use Rattle.std.specs.Str.{bytes_eq}
use Rattle.indexmap.specs.IndexMap.{get}
use Rattle.driver.specs.working.Marks.{walked}
use Rattle.driver.proofs.line_events.see_all.Given as goal

abbrev pub invariant-loop-i : goal.invariant-loop-i
invariant-loop-i l = (p : List ℕ) → get bytes_eq l.marks p ≡ option_map (walked (reverse (take l.i l.steps)) p) (get bytes_eq l.initial.marks p)
