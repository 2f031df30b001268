use Rattle.script.proofs.ByNames.{AreNamedTo}
use Rattle.script.proofs.naming.by_names.Given as goal

abbrev pub invariant-loop-place : goal.invariant-loop-place
invariant-loop-place l = AreNamedTo l.chains.accepted l.places l.place-index l.line.items
