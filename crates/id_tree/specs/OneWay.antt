-- The one way down to what an id owns, if all that it owns is one part alone.
use Rattle.std.specs.Prelude.{true, false, [], ◌∷◌}
use Rattle.id_tree.specs.IdTree.{IdTree, Zero, One, Pair}
use Rattle.id_tree.specs.Points.{Point}

-- the id that owns only what stands at the end of this way, and all of that
abbrev pub id_of_way : Point → IdTree
id_of_way [] = One
id_of_way (false ∷ p) = Pair (id_of_way p) Zero
id_of_way (true ∷ p) = Pair Zero (id_of_way p)
