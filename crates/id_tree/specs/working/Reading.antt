-- Working definitions: how a spelling is read, a byte at a time.
use Rattle.std.specs.Prelude.{◌≡◌, ◌≢◌, ⊤, ℕ, ◌+◌, ◌<◌, ◌==◌, min, max, Bool, true, false, cond, if◌then◌else◌, List, [], ◌∷◌, ◌++◌, Option, Some, None, option_and_then}
use Rattle.id_tree.specs.IdTree.{IdTree, Zero, One, Pair}
use Rattle.id_tree.specs.NormalForm.{depth_limit}
use Rattle.id_tree.specs.declared.fault.IdFault.{IdFault}
use Rattle.id_tree.specs.declared.fault.IdFault.TheVariants as faults
use Rattle.id_tree.specs.declared.reading.first_fault.Part.{Part}
use Rattle.id_tree.specs.declared.reading.first_fault.Part.TheVariants as parts
use Rattle.id_tree.specs.declared.reading.first_fault.Half.{Half}
use Rattle.id_tree.specs.declared.reading.first_fault.Half.TheVariants as halves

-- The pairs that are not closed yet, the innermost first, each with its left half if that was read, and the tree that was read last.
pub record State : Type 0 where
  pub open_pairs : List (Option IdTree)
  pub last : Option IdTree

abbrev pub start : State
start = record { open_pairs = []; last = None }

abbrev pub leaf_read : IdTree → List (Option IdTree) → Option IdTree → Option State
leaf_read t pairs None = Some (record { open_pairs = pairs; last = Some t })
leaf_read t pairs (Some v) = None

abbrev pub opened : List (Option IdTree) → Option IdTree → Option State
opened pairs None = Some (record { open_pairs = None ∷ pairs; last = None })
opened pairs (Some v) = None

abbrev pub halved : List (Option IdTree) → Option IdTree → Option State
halved pairs None = None
halved [] (Some v) = None
halved (None ∷ pairs) (Some v) = Some (record { open_pairs = Some v ∷ pairs; last = None })
halved (Some l ∷ pairs) (Some v) = None

abbrev pub closed : List (Option IdTree) → Option IdTree → Option State
closed pairs None = None
closed [] (Some v) = None
closed (None ∷ pairs) (Some v) = None
closed (Some l ∷ pairs) (Some v) = Some (record { open_pairs = pairs; last = Some (Pair l v) })

-- the state after a byte; no spelling has that byte there if there is none
abbrev pub step_of : State → ℕ → Option State
step_of s byte =
    if byte == 48 then leaf_read Zero s.open_pairs s.last
    else (if byte == 49 then leaf_read One s.open_pairs s.last
    else (if byte == 40 then opened s.open_pairs s.last
    else (if byte == 44 then halved s.open_pairs s.last
    else (if byte == 41 then closed s.open_pairs s.last else None))))

unfoldable pub run : State → List ℕ → Option State
run s [] = Some s
run s (byte ∷ bytes) = option_and_then (λ next. run next bytes) (step_of s byte)

-- the state once a whole spelling was read
abbrev pub whole : IdTree → State
whole t = record { open_pairs = []; last = Some t }

-- ---- what the reader's values stand for

-- both are one leaf
abbrev pub are_one : Part → Part → Bool
are_one parts.Zero parts.Zero = true
are_one parts.One parts.One = true
are_one _ _ = false

-- the depth of a tree in normal form, where 41 stands for all that is deeper
abbrev pub height : Part → Option ℕ
height parts.Zero = Some 0
height parts.One = Some 0
height (parts.Pair d) = Some d
height parts.NotNormal = None

abbrev pub above : Option ℕ → Option ℕ → Part
above None h = parts.NotNormal
above (Some g) None = parts.NotNormal
above (Some g) (Some h) = parts.Pair (min (max g h) depth_limit + 1)

-- what is known of a pair of these halves
abbrev pub pair_of : Part → Part → Part
pair_of p q = cond (are_one p q) parts.NotNormal (above (height p) (height q))

-- what is known of a tree
abbrev pub part_of : IdTree → Part
part_of Zero = parts.Zero
part_of One = parts.One
part_of (Pair l r) = pair_of (part_of l) (part_of r)

-- the right half of a pair, behind a left one of which this is known
abbrev pub right_of : Part → Half
right_of parts.Zero = halves.BehindZero
right_of parts.One = halves.BehindOne
right_of (parts.Pair d) = halves.BehindPair d
right_of parts.NotNormal = halves.BehindNotNormal

abbrev pub left_of : Half → Option Part
left_of halves.Left = None
left_of halves.BehindZero = Some parts.Zero
left_of halves.BehindOne = Some parts.One
left_of (halves.BehindPair d) = Some (parts.Pair d)
left_of halves.BehindNotNormal = Some parts.NotNormal

abbrev pub half_of : Option IdTree → Half
half_of None = halves.Left
half_of (Some l) = right_of (part_of l)

abbrev pub halves_of_pairs : List (Option IdTree) → List Half
halves_of_pairs [] = []
halves_of_pairs (p ∷ ps) = halves_of_pairs ps ++ half_of p ∷ []

abbrev pub last_of : Option IdTree → Option Part
last_of None = None
last_of (Some t) = Some (part_of t)

pub record ShowsState (hs : List Half) (last : Option Part) (s : State) : Type 0 where
  pub halves : hs ≡ halves_of_pairs s.open_pairs
  pub last_is : last ≡ last_of s.last

-- a state after a byte, which is shown
pub record StepsTo (s : State) (byte : ℕ) (hs : List Half) (last : Option Part) : Type 0 where
  pub next : State
  pub steps : step_of s byte ≡ Some next
  pub shows : ShowsState hs last next

-- the only faults of a step: there is no state after it, or no memory
abbrev pub IsStepFault : {A : Type 0} → IdFault → Option A → Type 0
IsStepFault faults.Syntax after = after ≡ None
IsStepFault faults.NotNormal after = ⊥
IsStepFault faults.TooDeep after = ⊥
IsStepFault faults.Memory after = ⊤

-- the only faults of a run: it does not end with a whole spelling, or there is no memory
abbrev pub IsRunFault : IdFault → Option State → Type 0
IsRunFault faults.Syntax after = (t : IdTree) → after ≢ Some (whole t)
IsRunFault faults.NotNormal after = ⊥
IsRunFault faults.TooDeep after = ⊥
IsRunFault faults.Memory after = ⊤

-- what is known of the tree that the bytes spell
pub record Spells (part : Part) (bytes : List ℕ) : Type 0 where
  pub tree : IdTree
  pub part_is : part ≡ part_of tree
  pub ran : run start bytes ≡ Some (whole tree)

-- the fault of a tree of which this is known
abbrev pub IsPartFault : IdFault → Part → Type 0
IsPartFault faults.Syntax part = ⊥
IsPartFault faults.NotNormal part = part ≡ parts.NotNormal
IsPartFault faults.TooDeep part = (d : ℕ) × (part ≡ parts.Pair d) × (depth_limit < d)
IsPartFault faults.Memory part = ⊤
