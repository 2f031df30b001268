-- A tree that is filled in a copy of its entries, which is made where the first one changes.
use Rattle.std.specs.Prelude.{◌≡◌, ◌↔◌, ◌≤◌, ◌<◌, ◌+◌, ◌++◌, ℕ, List, IsTrue, length}
use Rattle.id_tree.specs.IdTree.{IdTree, One, Pair}
use Rattle.id_tree.specs.NormalForm.{IsNormal as IsNormalId}
use Rattle.event_tree.specs.EventTree.{EventTree, Node}
use Rattle.event_tree.specs.NormalForm.{greatest, IsNormal}
use Rattle.event_tree.specs.Size.{size}
use Rattle.event_tree.specs.working.Entries.{preorder}
use Rattle.event_tree.specs.working.Writing.{HasTreeWritten}
use Rattle.event_tree.specs.working.Walks.{filled, IsFilled}
use Rattle.event_tree.specs.declared.layout.entries.Entry.{Entry}
use Rattle.event_tree.specs.declared.event.fill_in_copy.FilledEnd.{FilledEnd}
use Rattle.event_tree.specs.declared.event.fill_in_copy.Look.{Look}
use Rattle.event_tree.specs.declared.event.fill_in_copy.Look.TheVariants.{Kept, Changed}

-- the entries of a part stand in a list from this place on
pub record IsHere (es : List Entry) (start : ℕ) (e : EventTree) : Type 0 where
  pub front : List Entry
  pub rest : List Entry
  pub begins : length front ≡ start
  pub are : es ≡ front ++ (preorder e ++ rest)

-- the filled tree is written from a place on, in no more entries than the tree has
pub record IsFilledFrom (i : IdTree) (e : EventTree) (old new : List Entry) (start : ℕ) (end : FilledEnd) : Type 0 where
  pub written : HasTreeWritten old new start end.stop (filled i e)
  pub next : end.stop ≤ start + size e
  pub whole : IsTrue end.whole ↔ (i ≡ One)

-- so it is, up to this place
pub record IsStopOf (i : IdTree) (e : EventTree) (old new : List Entry) (start stop : ℕ) : Type 0 where
  pub written : HasTreeWritten old new start stop (filled i e)
  pub next : stop ≤ start + size e

-- the halves of a node are, one behind the other
pub record AreMade (n start : ℕ) (one other : FilledEnd) (now : List Entry) : Type 0 where
  pub old : List Entry
  pub between : List Entry
  pub l : IdTree
  pub r : IdTree
  pub a : EventTree
  pub b : EventTree
  pub id_normal : IsNormalId (Pair l r)
  pub tree_normal : IsNormal (Node n a b)
  pub fits : greatest (Node n a b) < 4294967296
  pub room : start + size (Node n a b) ≤ length old
  pub first_made : IsFilledFrom l a old between (start + 1) one
  pub second_made : IsFilledFrom r b between now one.stop other

-- Filling leaves the part as it is, and where all of it is owned it is at or above k; or it does not, and what filling makes of it is
-- written.
abbrev pub Tells : ℕ → IdTree → EventTree → List Entry → List Entry → ℕ → Look → Type 0
Tells k i e old new start Kept = IsFilled k i e
Tells k i e old new start (Changed stop) = (¬ IsFilled k i e) × IsStopOf i e old new start stop
