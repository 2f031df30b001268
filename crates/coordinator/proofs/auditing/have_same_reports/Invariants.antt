use Rattle.std.proofs.Common.{◌≡◌, ℕ, ◌<◌}
use Rattle.std.specs.Prelude.{slice_get}
use Rattle.coordinator.proofs.auditing.have_same_reports.Given as goal

abbrev pub invariant-loop-i : goal.invariant-loop-i
invariant-loop-i l = (j : ℕ) → j < l.i → (slice_get l.a.accepted j ≡ slice_get l.b.accepted j) × (slice_get l.a.epochs j ≡ slice_get l.b.epochs j)
