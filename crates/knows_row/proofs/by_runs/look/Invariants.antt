use Rattle.std.proofs.Common.{◌≡◌, ◌+◌, ◌<◌, ℕ, length}
use Rattle.std.specs.Prelude.{slice_index}
use Rattle.knows_row.specs.Needs.{IsUnknownCount}
use Rattle.knows_row.proofs.by_runs.look.Given as goal

abbrev pub invariant-loop-k : goal.invariant-loop-k
invariant-loop-k l = (length l.slots ≡ length l.initial.slots)
    × ((k : ℕ) → k < l.k → IsUnknownCount l.chains.accepted (l.start + k) (slice_index l.slots k))
