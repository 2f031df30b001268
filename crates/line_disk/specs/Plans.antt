-- Which calls of a disk in memory are to fail.
use Rattle.std.specs.Prelude.{ℕ, List, [], ◌∷◌, Option, Some, None, ◌==◌, if◌then◌else◌}
use Rattle.line_disk.specs.declared.plan.Effect.{Effect}
use Rattle.line_disk.specs.declared.plan.Planned.{Planned}

-- what the call of this number is to do, if it is to fail
abbrev pub planned_at : List Planned → ℕ → Option Effect
planned_at [] k = None
planned_at (p ∷ plan) k = if p.call == k then Some p.effect else planned_at plan k
