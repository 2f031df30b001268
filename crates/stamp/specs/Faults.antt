-- When each fault of a reading comes: over the whole text, the first of this order.
use Rattle.std.specs.Prelude.{◌≡◌, ℕ, ◌<◌, ◌≤◌, max, List, ◌∷◌, ◌++◌, ⊤}
use Rattle.id_tree.specs.IdTree.{IdTree}
use Rattle.id_tree.specs.NormalForm as ids
use Rattle.id_tree.specs.NormalForm.{depth_limit}
use Rattle.id_tree.specs.Spelling.{spelling}
use Rattle.event_tree.specs.EventTree.{EventTree}
use Rattle.event_tree.specs.NormalForm as events
use Rattle.event_tree.specs.NormalForm.{value_limit}
use Rattle.event_tree.specs.Spelling.{IsTextOf}
use Rattle.stamp.specs.declared.fault.StampTextFault.{StampTextFault}
use Rattle.stamp.specs.declared.fault.StampTextFault.TheVariants.{Syntax, NotNormal, TooDeep, TooLarge, Memory}

-- the bytes are the text of this id and the text of these events, parted by a semicolon
pub record Spells (i : IdTree) (e : EventTree) (bytes : List ℕ) : Type 0 where
  pub events_text : List ℕ
  pub parts : bytes ≡ spelling i ++ 59 ∷ events_text
  pub events : IsTextOf e events_text

-- both trees are in normal form
abbrev pub AreNormal : IdTree → EventTree → Type 0
AreNormal i e = ids.IsNormal i × events.IsNormal e

-- how deep the deeper tree is
abbrev pub greater_depth : IdTree → EventTree → ℕ
greater_depth i e = max (ids.depth i) (events.depth e)

-- the fault that bytes have; memory may be wanting for any
abbrev pub IsFaultOfStamp : StampTextFault → List ℕ → Type 0
IsFaultOfStamp Syntax bytes = (i : IdTree) (e : EventTree) → ¬ Spells i e bytes
IsFaultOfStamp NotNormal bytes = (i : IdTree) × (e : EventTree) × Spells i e bytes × (¬ AreNormal i e)
IsFaultOfStamp TooDeep bytes = (i : IdTree) × (e : EventTree) × Spells i e bytes × AreNormal i e × (depth_limit < greater_depth i e)
IsFaultOfStamp TooLarge bytes =
    (i : IdTree) × (e : EventTree) × Spells i e bytes × AreNormal i e × (greater_depth i e ≤ depth_limit) × (value_limit < events.greatest e)
IsFaultOfStamp Memory bytes = ⊤
