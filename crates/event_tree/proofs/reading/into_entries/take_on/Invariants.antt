use Rattle.std.specs.Prelude.{◌≡◌, length, ◌-◌}
use Rattle.event_tree.specs.working.Taking.{IsUnread}
use Rattle.event_tree.proofs.reading.into_entries.take_on.Given as goal

abbrev pub invariant-loop-end : goal.invariant-loop-end
invariant-loop-end l = IsUnread l.fn.text l.rest l.around l.room l.end × (length l.room ≡ length l.fn.room)

abbrev pub decreases-loop-end : goal.decreases-loop-end
decreases-loop-end l = length l.room - l.end
