-- Working definitions: which halves of a tree own something.
use Rattle.std.specs.Prelude.{◌≡◌, ◌≢◌, ◌<◌, List, length}
use Rattle.id_tree.specs.IdTree.{Zero, One, Pair}
use Rattle.id_tree.specs.working.Marks.{tree_of, preorder, HasTrees}
use Rattle.id_tree.specs.declared.marks.Mark.{Mark}
use Rattle.id_tree.specs.declared.parts.Shape.{Shape}
use Rattle.id_tree.specs.declared.parts.Shape.TheVariants.{Nothing, Everything, OnlyLeft, OnlyRight, Both}

-- only the left half, whose marks begin with l
pub record IsOnlyLeft (l ms : List Mark) : Type 0 where
  pub tree : tree_of ms ≡ Pair (tree_of l) Zero
  pub some : tree_of l ≢ Zero
  pub whole : HasTrees 1 l
  pub shorter : length l < length ms

-- only the right half
pub record IsOnlyRight (r ms : List Mark) : Type 0 where
  pub tree : tree_of ms ≡ Pair Zero (tree_of r)
  pub whole : HasTrees 1 r
  pub shorter : length r < length ms

-- both halves, whose marks are l and r
pub record AreBoth (l r ms : List Mark) : Type 0 where
  pub tree : tree_of ms ≡ Pair (tree_of l) (tree_of r)
  pub some_left : tree_of l ≢ Zero
  pub some_right : tree_of r ≢ Zero
  pub left : l ≡ preorder (tree_of l)
  pub right : r ≡ preorder (tree_of r)

abbrev pub IsShape : Shape → List Mark → Type 0
IsShape Nothing ms = tree_of ms ≡ Zero
IsShape Everything ms = tree_of ms ≡ One
IsShape (OnlyLeft l) ms = IsOnlyLeft l.now ms
IsShape (OnlyRight r) ms = IsOnlyRight r.now ms
IsShape (Both l r) ms = AreBoth l.now r.now ms
