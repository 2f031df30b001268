use Rattle.std.proofs.Common.{ℕ, ◌<◌}
use Rattle.chains.specs.Positions.{position_in, positions_of}
use Rattle.chains.specs.working.Settling.{HasElementsTo}
use Rattle.chains.proofs.keeping.have_elements.Given as goal

abbrev pub invariant-loop-i : goal.invariant-loop-i
invariant-loop-i l = (j : ℕ) → j < l.i → HasElementsTo l.chains.accepted j (position_in (positions_of l.line) j) l.kept.accepted
