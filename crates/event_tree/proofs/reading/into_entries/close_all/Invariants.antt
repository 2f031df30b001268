use Rattle.std.specs.Prelude.{◌≡◌, ℕ, List, length}
use Rattle.event_tree.specs.working.Taking.{IsTreeRead}
use Rattle.event_tree.proofs.reading.into_entries.close_all.Given as goal

abbrev pub invariant-loop-left : goal.invariant-loop-left
invariant-loop-left l = ((whole : List ℕ) → IsTreeRead whole l.fn.text l.fn.around l.fn.room l.end → IsTreeRead whole l.rest l.left l.room l.end) × (length l.room ≡ length l.fn.room)

abbrev pub decreases-loop-left : goal.decreases-loop-left
decreases-loop-left l = l.left.halves
