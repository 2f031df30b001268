-- Working definitions: an id that is read from the front of a text, straight into its marks.
use Rattle.std.specs.Prelude.{◌≡◌, ◌≢◌, ◌≤◌, ◌&&◌, not, if◌then◌else◌, ⊤, ℕ, Bool, true, false, List, [], ◌∷◌, ◌++◌}
use Rattle.id_tree.specs.IdTree.{IdTree, Zero, One, Pair}
use Rattle.id_tree.specs.NormalForm.{IsNormal, depth}
use Rattle.id_tree.specs.Spelling.{spelling}
use Rattle.id_tree.specs.working.Marks.{preorder, tree_of, AreMarksOf}
use Rattle.id_tree.specs.declared.marks.Mark.{Mark}
use Rattle.id_tree.specs.declared.reading.into_marks.Taken.{Taken}
use Rattle.id_tree.specs.declared.reading.into_marks.Halt.{Halt}
use Rattle.id_tree.specs.declared.reading.into_marks.Halt.TheVariants.{NoTree, NotNormal, Other}
use Rattle.id_tree.specs.declared.reading.into_marks.Form.{Form}
use Rattle.id_tree.specs.declared.reading.into_marks.Form.TheVariants as forms
use Rattle.id_tree.specs.Faults.{SpellsUnnormal}

-- this is the form of the tree
abbrev pub IsFormOf : Form → IdTree → Type 0
IsFormOf forms.Zero t = t ≡ Zero
IsFormOf forms.One t = t ≡ One
IsFormOf forms.Pair t = IsNormal t × (l : IdTree) × (r : IdTree) × (t ≡ Pair l r)
IsFormOf forms.NotNormal t = ¬ IsNormal t

abbrev pub is_normal : Form → Bool
is_normal forms.Zero = true
is_normal forms.One = true
is_normal forms.Pair = true
is_normal forms.NotNormal = false

abbrev pub are_one_leaf : Form → Form → Bool
are_one_leaf forms.Zero forms.Zero = true
are_one_leaf forms.One forms.One = true
are_one_leaf _ _ = false

-- the form of a pair of two trees of these forms
abbrev pub pair_form : Form → Form → Form
pair_form f g = if is_normal f && is_normal g && not (are_one_leaf f g) then forms.Pair else forms.NotNormal

-- some tree, at most so deep, stands at the front of the text, with the rest behind it, and its marks came behind those
-- before; this is told of it
pub record IsTaken (levels : ℕ) (text : List ℕ) (before after : List Mark) (taken : Taken) : Type 0 where
  pub tree : IdTree
  pub spelled : text ≡ spelling tree ++ taken.rest.now
  pub are : after ≡ before ++ preorder tree
  pub shallow : depth tree ≤ levels
  pub form_is : IsFormOf taken.form tree

-- the marks are those of an id that the whole text spells
pub record IsWhole (text : List ℕ) (ms : List Mark) : Type 0 where
  pub are : AreMarksOf (tree_of ms) ms
  pub spelled : text ≡ spelling (tree_of ms)

-- a leaf's mark came, and this is told of it
pub record IsLeafPut (rest : List ℕ) (mark : Mark) (form : Form) (before after : List Mark) (taken : Taken) : Type 0 where
  pub rest_is : taken.rest.now ≡ rest
  pub are : after ≡ before ++ mark ∷ []
  pub form_is : taken.form ≡ form

-- the text does not begin with this byte
abbrev pub BeginsNot : ℕ → List ℕ → Type 0
BeginsNot byte text = (rest : List ℕ) → text ≢ byte ∷ rest

-- why no tree was read at the front of the text: none stands there, or something else; one that is not in normal form is read
abbrev pub IsHalt : Halt → List ℕ → Type 0
IsHalt NoTree text = (t : IdTree) (rest : List ℕ) → text ≢ spelling t ++ rest
IsHalt NotNormal text = ⊥
IsHalt Other text = ⊤

-- why the whole text spells no id: it spells no tree, or one that is not in normal form, or something else
abbrev pub IsHaltOfWhole : Halt → List ℕ → Type 0
IsHaltOfWhole NoTree text = (t : IdTree) → text ≢ spelling t
IsHaltOfWhole NotNormal text = SpellsUnnormal text
IsHaltOfWhole Other text = ⊤
