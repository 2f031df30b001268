use Rattle.std.proofs.Common.{◌≢◌, ℕ, ◌<◌, ◌≤◌}
use Rattle.reason_check.specs.Causes.{entry}
use Rattle.reason_check.proofs.falling.still_falls.Given as goal

abbrev pub invariant-loop-i : goal.invariant-loop-i
invariant-loop-i l = (l.i ≤ l.e) × ((k : ℕ) → l.i ≤ k → k < l.e → (entry l.chain k).process ≢ (entry l.chain l.e).process)

abbrev pub decreases-loop-i : goal.decreases-loop-i
decreases-loop-i l = l.i
