use Rattle.std.proofs.Common.{ℕ, ◌<◌, IsTrue}
use Rattle.reason_check.specs.Causes.{IsRightEntry}
use Rattle.reason_check.specs.working.Falling.{IsFalling}
use Rattle.reason_check.proofs.links.wrong_entry.Given as goal

abbrev pub invariant-loop-e : goal.invariant-loop-e
invariant-loop-e l = ((k : ℕ) → k < l.e → IsRightEntry l.chains.accepted l.failed l.chain k) × (IsTrue l.falls → IsFalling l.chain l.e)
