use Rattle.std.proofs.Common.{ℕ, ◌<◌}
use Rattle.chains.proofs.LineElements.{IsPlaceAt}
use Rattle.chains.proofs.keeping.lists_each.Given as goal

abbrev pub invariant-loop-i : goal.invariant-loop-i
invariant-loop-i l = (j : ℕ) → j < l.i → IsPlaceAt l.chains.accepted l.line j
