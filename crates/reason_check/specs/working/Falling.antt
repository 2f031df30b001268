-- Working definitions: chains whose places of a process go down, so that none stands twice.
use Rattle.std.specs.Prelude.{◌≡◌, ℕ, ◌<◌, List, ⊤}
use Rattle.chains.specs.declared.position.Position.{Position}
use Rattle.chains.specs.declared.position.Position.TheVariants.{At, Retired}
use Rattle.chains.specs.declared.position.Place.{Place}
use Rattle.reason_check.specs.Causes.{entry}

-- in the order unborn, elements, retired
abbrev pub IsBelow : Position → Position → Type 0
IsBelow (At j) (At k) = j < k
IsBelow (At j) Retired = ⊤
IsBelow Retired k = ⊥

-- of the entries from the second on and before e, each is below all those of its process that stand before it
unfoldable pub IsFalling : List Place → ℕ → Type 0
IsFalling chain e =
    (i j : ℕ) → 0 < i → i < j → j < e → (entry chain i).process ≡ (entry chain j).process → IsBelow (entry chain j).position (entry chain i).position
