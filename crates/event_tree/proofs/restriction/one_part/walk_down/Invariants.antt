use Rattle.std.proofs.Common.{◌≡◌, ◌<◌, ◌+◌, ◌^◌, length}
use Rattle.event_tree.specs.NormalForm.{greatest}
use Rattle.event_tree.specs.working.Beside.{part_at, base_at}
use Rattle.event_tree.proofs.restriction.one_part.walk_down.Given as goal

-- what is left of the way leads where the whole does
abbrev pub invariant-loop-turn : goal.invariant-loop-turn
invariant-loop-turn l = (base_at l.way l.x l.part ≡ base_at l.fn.way 0 l.fn.e) × (part_at l.way l.part ≡ part_at l.fn.way l.fn.e) × (l.x + greatest l.part < 2 ^ 32)

abbrev pub decreases-loop-turn : goal.decreases-loop-turn
decreases-loop-turn l = length l.way
