-- The records of a file, a line each.
use Rattle.std.specs.Prelude.{ℕ, ◌+◌, List, [], ◌∷◌, ◌++◌}
use Rattle.std.specs.Fmt.{decimal}
use Rattle.record_file.specs.File.{Said}
use Rattle.record_show.specs.Numbered.{numbered}

-- its number from 1, its epoch, and its line, where n records stand in front of it
abbrev pub record_line : ℕ → Said → List ℕ
record_line n said = decimal (n + 1) ++ (32 ∷ (decimal said.0 ++ (32 ∷ (said.1 ++ 10 ∷ []))))

-- all of them
abbrev pub lines_text : List Said → List ℕ
lines_text said = numbered record_line 0 said
