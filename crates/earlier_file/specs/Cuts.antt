-- Working definition: where a file is cut.
use Rattle.std.specs.Prelude.{ℕ, ◌<◌, List, [], ◌∷◌, ◌++◌, length, take}
use Rattle.earlier_file.specs.Earlier.{HasFirst}

-- the gate behind the first records is at this offset of the file
pub record IsCutAt (front : ℕ) (file : List ℕ) (at : ℕ) : Type 0 where
  pub inside : at < length file
  pub first : HasFirst front file (take at file ++ 0 ∷ [])
