-- Tests of what ids in normal form own, by recursion.
use Rattle.std.specs.Prelude.{◌≡◌, Bool, true, false, ◌&&◌, List, [], ◌∷◌}
use Rattle.id_tree.specs.IdTree.{IdTree, Zero, One, Pair}

-- it owns something
abbrev pub owns_any : IdTree → Bool
owns_any Zero = false
owns_any One = true
owns_any (Pair l r) = true

-- no point is owned by both
abbrev pub are_disjoint : IdTree → IdTree → Bool
are_disjoint Zero j = true
are_disjoint One Zero = true
are_disjoint One One = false
are_disjoint One (Pair c d) = false
are_disjoint (Pair a b) Zero = true
are_disjoint (Pair a b) One = false
are_disjoint (Pair a b) (Pair c d) = are_disjoint a c && are_disjoint b d

-- of each two that stand at one place
abbrev pub all_disjoint : List IdTree → List IdTree → Bool
all_disjoint [] js = true
all_disjoint (i ∷ is) [] = true
all_disjoint (i ∷ is) (j ∷ js) = are_disjoint i j && all_disjoint is js

-- i owns each point that j owns
abbrev pub covers : IdTree → IdTree → Bool
covers Zero Zero = true
covers Zero One = false
covers Zero (Pair c d) = false
covers One j = true
covers (Pair a b) Zero = true
covers (Pair a b) One = false
covers (Pair a b) (Pair c d) = covers a c && covers b d

-- of each two that stand at one place, where one that is missing owns nothing
abbrev pub all_covered : List IdTree → List IdTree → Bool
all_covered [] [] = true
all_covered [] (j ∷ js) = covers Zero j && all_covered [] js
all_covered (i ∷ is) [] = true
all_covered (i ∷ is) (j ∷ js) = covers i j && all_covered is js

-- i owns just what l and r own, who own no point both
abbrev pub IsSumBy : IdTree → IdTree → IdTree → Type 0
IsSumBy i Zero r = i ≡ r
IsSumBy i One Zero = i ≡ One
IsSumBy i One One = ⊥
IsSumBy i One (Pair c d) = ⊥
IsSumBy i (Pair a b) Zero = i ≡ Pair a b
IsSumBy i (Pair a b) One = ⊥
IsSumBy Zero (Pair a b) (Pair c d) = ⊥
IsSumBy One (Pair a b) (Pair c d) = IsSumBy One a c × IsSumBy One b d
IsSumBy (Pair x y) (Pair a b) (Pair c d) = IsSumBy x a c × IsSumBy y b d
