use Rattle.propagate.proofs.Placing.{ArePlacesTo}
use Rattle.propagate.proofs.places.line_at.Given as goal

abbrev pub invariant-loop-process : goal.invariant-loop-process
invariant-loop-process l = ArePlacesTo l.chains.accepted l.ranks l.process l.places.items
