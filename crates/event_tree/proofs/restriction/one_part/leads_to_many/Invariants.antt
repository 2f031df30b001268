use Rattle.std.specs.Prelude.{length}
use Rattle.event_tree.proofs.restriction.one_part.leads_to_many.Given as goal

abbrev pub decreases-loop-turn : goal.decreases-loop-turn
decreases-loop-turn l = length l.way
