-- Working definitions: the one way down to what an id owns, by its marks.
use Rattle.std.specs.Prelude.{Bool, true, false, List, [], ◌∷◌}
use Rattle.id_tree.specs.Points.{Point}
use Rattle.id_tree.specs.declared.marks.Mark.{Mark}
use Rattle.id_tree.specs.declared.marks.Mark.TheVariants as marks

-- the turns of a way that marks begin with: to the right where the left half is nothing
abbrev pub turns_of : List Mark → Point
turns_of [] = []
turns_of (marks.Zero ∷ ms) = []
turns_of (marks.One ∷ ms) = []
turns_of (marks.Pair ∷ []) = false ∷ []
turns_of (marks.Pair ∷ marks.Zero ∷ ms) = true ∷ turns_of ms
turns_of (marks.Pair ∷ marks.One ∷ ms) = false ∷ turns_of (marks.One ∷ ms)
turns_of (marks.Pair ∷ marks.Pair ∷ ms) = false ∷ turns_of (marks.Pair ∷ ms)

-- no mark is that of something
abbrev pub are_nothing : List Mark → Bool
are_nothing [] = true
are_nothing (marks.Zero ∷ ms) = are_nothing ms
are_nothing (marks.One ∷ ms) = false
are_nothing (marks.Pair ∷ ms) = false

-- the way ends at a part that is owned whole, and nothing is owned behind it
abbrev pub is_only_way : List Mark → Bool
is_only_way [] = false
is_only_way (marks.Zero ∷ ms) = false
is_only_way (marks.One ∷ ms) = are_nothing ms
is_only_way (marks.Pair ∷ []) = false
is_only_way (marks.Pair ∷ marks.Zero ∷ ms) = is_only_way ms
is_only_way (marks.Pair ∷ marks.One ∷ ms) = is_only_way (marks.One ∷ ms)
is_only_way (marks.Pair ∷ marks.Pair ∷ ms) = is_only_way (marks.Pair ∷ ms)
