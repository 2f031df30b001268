use Rattle.std.proofs.Common.{◌≡◌, ◌≤◌, ◌+◌, ℕ, length}
use Rattle.event_tree.specs.working.Beside.{size_beside, down, leaves, IsHalfway}
use Rattle.event_tree.proofs.restriction.one_part.write_down.Given as goal

-- what is written and what is left to be written are the whole
abbrev pub invariant-loop-turn : goal.invariant-loop-turn
invariant-loop-turn l =
    (length l.out ≡ length l.fn.out) × (l.size ≡ size_beside l.way l.part) × (l.at + l.size ≤ length l.fn.out)
    × ((k : ℕ) → l.fn.out ≡ leaves (length l.fn.out) k → IsHalfway l.out l.at k (down l.way l.value k l.part) (down l.fn.way l.fn.m k l.fn.part))

abbrev pub decreases-loop-turn : goal.decreases-loop-turn
decreases-loop-turn l = length l.way
