-- What an event makes of a tree, as the entries that it writes.
use Rattle.std.specs.Prelude.{◌≡◌, ◌≤◌, ◌<◌, Bool, true, false, List}
use Rattle.id_tree.specs.IdTree.{IdTree}
use Rattle.event_tree.specs.EventTree.{EventTree}
use Rattle.event_tree.specs.NormalForm.{greatest}
use Rattle.event_tree.specs.working.Entries.{preorder}
use Rattle.event_tree.specs.Event.{IsEventStep, PassesLimit}
use Rattle.event_tree.specs.declared.layout.entries.Entry.{Entry}

-- whether a tree is within the limit, and these are its entries if it is
abbrev pub IsFitted : Bool → EventTree → List Entry → Type 0
IsFitted true t es = (es ≡ preorder t) × (greatest t < 4294967296)
IsFitted false t es = 4294967296 ≤ greatest t

-- these are the entries of what an event makes of the tree
pub record IsStep (i : IdTree) (e : EventTree) (es : List Entry) : Type 0 where
  pub tree : EventTree
  pub are : es ≡ preorder tree
  pub step : IsEventStep i e tree
  pub fits : greatest tree < 4294967296

-- whether an event stays within the limit, and these are the entries of what it makes if it does
abbrev pub IsStepped : Bool → IdTree → EventTree → List Entry → Type 0
IsStepped true i e es = IsStep i e es
IsStepped false i e es = PassesLimit i e
