-- Positions of processes, and cuts. Processes go by their numbers, counted from 0 in order of birth. A position is At 0
-- (unborn), At an element's number, or Retired; a place is a position of a process.
use Rattle.std.specs.Prelude.{◌≡◌, ◌⊎◌, ℕ, ◌+◌, ◌≤◌, ◌<◌, Bool, true, false, List, length, map, Contains, slice_index_or, nat_lt, if◌then◌else◌}
use Rattle.std.specs.Option.{option_map_or, is_some}
use Rattle.report_line.specs.declared.report.Report.{Report}
use Rattle.chains.specs.declared.position.Place.{Place}
use Rattle.chains.specs.declared.position.Position.{Position}
use Rattle.chains.specs.declared.position.Position.TheVariants.{At, Retired}
use Rattle.chains.specs.Processes.{known, target_of}
use Rattle.chains.specs.Elements.{name_of, elements, stable}

-- the position of a process that is not born
abbrev pub before_birth : Position
before_birth = At 0

-- whether the process retired
abbrev pub is_retired : List Report → ℕ → Bool
is_retired accepted p = option_map_or (λ name. is_some (target_of name accepted)) (name_of accepted p) false

-- Of these failed processes, the position survives: an element of the process, for a failed process one that lasts (its
-- present state is lost); or Retired once it retired.
abbrev pub IsSurviving : List Report → List ℕ → ℕ → Position → Type 0
IsSurviving accepted failed p (At k) = (1 ≤ k) × (k ≤ length (elements accepted p)) × (Contains failed p → k ≤ length (stable accepted p))
IsSurviving accepted failed p Retired = is_retired accepted p ≡ true

-- the place of a position in the order unborn, elements, retired
abbrev pub rank : List Report → ℕ → Position → ℕ
rank accepted p (At k) = k
rank accepted p Retired = length (elements accepted p) + 1

-- the position of this rank, where the process has one
abbrev pub position_at : List Report → ℕ → ℕ → Position
position_at accepted p r = if nat_lt (length (elements accepted p)) r then Retired else At r

abbrev pub place_at : List Report → ℕ → ℕ → Place
place_at accepted p r = record { process = p; position = position_at accepted p r }

-- the rank of the last position that the process has
abbrev pub last_rank : List Report → ℕ → ℕ
last_rank accepted p = if is_retired accepted p then length (elements accepted p) + 1 else length (elements accepted p)

-- the last surviving position
pub record IsLastSurviving (accepted : List Report) (failed : List ℕ) (p : ℕ) (last : Position) : Type 0 where
  pub surviving : IsSurviving accepted failed p last
  pub greatest : (k : Position) → IsSurviving accepted failed p k → rank accepted p k ≤ rank accepted p last

-- the positions of a line, which lists a place of each process
abbrev pub positions_of : List Place → List Position
positions_of line = map (λ x. x.position) line

-- the position of a process in a cut, which lists one of each known process in order of birth
abbrev pub position_in : List Position → ℕ → Position
position_in cut p = slice_index_or cut p before_birth

-- unborn, or at a surviving position
abbrev pub IsChosen : List Report → List ℕ → ℕ → Position → Type 0
IsChosen accepted failed p k = (k ≡ before_birth) ⊎ IsSurviving accepted failed p k

pub record IsCut (accepted : List Report) (failed : List ℕ) (cut : List Position) : Type 0 where
  pub complete : length cut ≡ length (known accepted)
  pub chosen : (p : ℕ) → p < length (known accepted) → IsChosen accepted failed p (position_in cut p)
