use Rattle.std.specs.Prelude.{length, ◌-◌}
use Rattle.event_tree.specs.working.Taking.{IsHalted}
use Rattle.event_tree.proofs.reading.into_entries.take_all.Given as goal

abbrev pub invariant-loop-end : goal.invariant-loop-end
invariant-loop-end l = IsHalted l.text l.halted l.entries.items

abbrev pub decreases-loop-end : goal.decreases-loop-end
decreases-loop-end l = 4294967296 - length l.entries.items
