-- Working definitions: lines as parts of the bytes that they stand in.
use Rattle.std.specs.Prelude.{ℕ, ◌≤◌, List, drop, length, Option, Some, None}
use Rattle.std.specs.List.{slice_range, AllByRecursion}
use Rattle.report_line.specs.Cutting.{Stand}

-- the part from the one place up to the other
abbrev pub part_of : List ℕ → ℕ × ℕ → List ℕ
part_of bytes part = slice_range bytes part.0 part.1

-- they lie within the bytes
abbrev pub ArePartsOf : List ℕ → List (ℕ × ℕ) → Type 0
ArePartsOf bytes parts = AllByRecursion (λ part. (part.0 ≤ part.1) × (part.1 ≤ length bytes)) parts

-- where a stream stands whose rest begins at this place of the bytes, or is too long
abbrev pub stand_from : List ℕ → Option ℕ → Stand
stand_from bytes None = None
stand_from bytes (Some at) = Some (drop at bytes)
