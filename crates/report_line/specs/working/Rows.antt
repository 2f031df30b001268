-- Working definitions: names in a row, as the text in which a call has them.
use Rattle.std.specs.Prelude.{ℕ, List, [], ◌∷◌, ◌++◌, Option, Some, None}
use Rattle.std.specs.Borrow.{Bor}
use Rattle.report_line.specs.Names.{parts_in}

-- the names that a text has, where an empty one has none
abbrev pub named_in : List ℕ → List (List ℕ)
named_in [] = []
named_in (b ∷ bytes) = parts_in (b ∷ bytes)

-- the names that are left
abbrev pub named_left : Option (Bor (List ℕ)) → List (List ℕ)
named_left None = []
named_left (Some rest) = parts_in rest.now

-- the text with one name more
abbrev pub appended : List ℕ → List ℕ → List ℕ
appended [] name = name
appended (b ∷ bytes) name = (b ∷ bytes) ++ 44 ∷ name
