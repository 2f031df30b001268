-- Working definitions: how an id is kept, as its nodes and leaves in preorder.
use Rattle.std.specs.Prelude.{◌≡◌, ℕ, ◌≤◌, List, [], ◌∷◌, ◌++◌, length, ◌⊎◌}
use Rattle.id_tree.specs.IdTree.{IdTree, Zero, One, Pair}
use Rattle.id_tree.specs.NormalForm.{IsId}
use Rattle.id_tree.specs.declared.marks.Mark.{Mark}
use Rattle.id_tree.specs.declared.marks.Mark.TheVariants as marks

-- a mark that is a leaf
abbrev pub IsLeaf : Mark → Type 0
IsLeaf m = (m ≡ marks.Zero) ⊎ (m ≡ marks.One)

-- a mark for each node and leaf: a pair, then its left half, then its right half
abbrev pub preorder : IdTree → List Mark
preorder Zero = marks.Zero ∷ []
preorder One = marks.One ∷ []
preorder (Pair l r) = marks.Pair ∷ (preorder l ++ preorder r)

-- of several trees, one after the other
abbrev pub preorders : List IdTree → List Mark
preorders [] = []
preorders (t ∷ ts) = preorder t ++ preorders ts

-- the first of some trees, where nothing stands in for one that is missing
abbrev pub first : List IdTree → IdTree
first [] = Zero
first (t ∷ ts) = t

abbrev pub later : List IdTree → List IdTree
later [] = []
later (t ∷ ts) = ts

-- the trees that marks stand for, one after the other
abbrev pub trees_of : List Mark → List IdTree
trees_of [] = []
trees_of (marks.Zero ∷ ms) = Zero ∷ trees_of ms
trees_of (marks.One ∷ ms) = One ∷ trees_of ms
trees_of (marks.Pair ∷ ms) = Pair (first (trees_of ms)) (first (later (trees_of ms))) ∷ later (later (trees_of ms))

abbrev pub tree_of : List Mark → IdTree
tree_of ms = first (trees_of ms)

-- they are the marks of whole trees, of so many at least
pub record HasTrees (n : ℕ) (ms : List Mark) : Type 0 where
  pub whole : preorders (trees_of ms) ≡ ms
  pub enough : n ≤ length (trees_of ms)

-- the marks behind the first tree
pub record IsBehind (ms rest : List Mark) : Type 0 where
  pub trees : trees_of rest ≡ later (trees_of ms)
  pub whole : preorders (trees_of ms) ≡ ms → preorders (trees_of rest) ≡ rest
  pub shorter : length rest ≤ length ms

-- they are those of the id i
pub record AreMarksOf (i : IdTree) (ms : List Mark) : Type 0 where
  pub are : ms ≡ preorder i
  pub id : IsId i
