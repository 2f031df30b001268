use Rattle.std.proofs.Common.{length}
use Rattle.event_tree.proofs.Owned.{IsOnTheWay}
use Rattle.event_tree.proofs.event.one_part.end_of.Given as goal

abbrev pub invariant-loop-turn : goal.invariant-loop-turn
invariant-loop-turn l = IsOnTheWay l.fn.way l.fn.e l.way l.part l.at l.base l.beside

abbrev pub decreases-loop-turn : goal.decreases-loop-turn
decreases-loop-turn l = length l.way
