-- What an id owns (interval tree clocks 2008): a set of points.
use Rattle.std.specs.Prelude.{◌≡◌, Bool, true, false, ◌||◌, List, [], ◌∷◌, IsTrue}
use Rattle.id_tree.specs.IdTree.{IdTree, Zero, One, Pair}

-- A list of bits. Each bit names a half, false the left and true the right; a missing bit counts as false.
abbrev pub Point : Type 0
Point = List Bool

-- whether an id owns a point
abbrev pub owns : IdTree → Point → Bool
owns Zero p = false
owns One p = true
owns (Pair l r) [] = owns l []
owns (Pair l r) (false ∷ p) = owns l p
owns (Pair l r) (true ∷ p) = owns r p

-- some point is owned
abbrev pub OwnsSome : IdTree → Type 0
OwnsSome i = (p : Point) × IsTrue (owns i p)

-- some point is owned by both
abbrev pub Overlap : IdTree → IdTree → Type 0
Overlap i j = (p : Point) × IsTrue (owns i p) × IsTrue (owns j p)

-- no point is owned by both
abbrev pub AreDisjoint : IdTree → IdTree → Type 0
AreDisjoint i j = (p : Point) → IsTrue (owns i p) → owns j p ≡ false

-- l and r together own just the points of i
abbrev pub AreTogether : IdTree → IdTree → IdTree → Type 0
AreTogether l r i = (p : Point) → owns i p ≡ (owns l p || owns r p)

-- i owns each point that j owns
abbrev pub Covers : IdTree → IdTree → Type 0
Covers i j = (p : Point) → IsTrue (owns j p) → IsTrue (owns i p)
