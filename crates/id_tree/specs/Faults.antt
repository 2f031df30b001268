-- When each fault of a reading comes.
use Rattle.std.specs.Prelude.{◌≡◌, ◌≢◌, ℕ, ◌<◌, List, ⊤}
use Rattle.id_tree.specs.IdTree.{IdTree}
use Rattle.id_tree.specs.NormalForm.{IsNormal, depth, depth_limit}
use Rattle.id_tree.specs.Spelling.{spelling}
use Rattle.id_tree.specs.declared.fault.IdFault.{IdFault}
use Rattle.id_tree.specs.declared.fault.IdFault.TheVariants.{Syntax, NotNormal, TooDeep, Memory}

-- the bytes spell a tree that is not in normal form
pub record SpellsUnnormal (bytes : List ℕ) : Type 0 where
  pub tree : IdTree
  pub spelled : bytes ≡ spelling tree
  pub unnormal : ¬ IsNormal tree

-- the bytes spell a tree in normal form that is too deep
pub record SpellsDeep (bytes : List ℕ) : Type 0 where
  pub tree : IdTree
  pub spelled : bytes ≡ spelling tree
  pub normal : IsNormal tree
  pub deep : depth_limit < depth tree

-- the fault that bytes have; memory may be wanting for any
abbrev pub IsFaultOfId : IdFault → List ℕ → Type 0
IsFaultOfId Syntax bytes = (t : IdTree) → bytes ≢ spelling t
IsFaultOfId NotNormal bytes = SpellsUnnormal bytes
IsFaultOfId TooDeep bytes = SpellsDeep bytes
IsFaultOfId Memory bytes = ⊤
