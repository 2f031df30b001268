use Rattle.propagate.proofs.Placing.{AreTopsTo}
use Rattle.propagate.proofs.places.last_surviving_ranks.Given as goal

abbrev pub invariant-loop-process : goal.invariant-loop-process
invariant-loop-process l = AreTopsTo l.chains.accepted l.failed l.process l.ranks.items
