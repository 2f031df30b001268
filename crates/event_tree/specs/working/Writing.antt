-- A tree that is written into a list of entries, in place of those that stood there.
use Rattle.std.specs.Prelude.{◌≡◌, ℕ, ◌≤◌, List, ◌++◌, length, take}
use Rattle.event_tree.specs.EventTree.{EventTree}
use Rattle.event_tree.specs.working.Entries.{preorder}
use Rattle.event_tree.specs.declared.layout.entries.Entry.{Entry}

-- the tree's entries stand from one place up to another, and those in front of them stay
pub record HasTreeWritten (old new : List Entry) (start stop : ℕ) (t : EventTree) : Type 0 where
  pub as_long : length new ≡ length old
  pub within : stop ≤ length old
  pub are : take stop new ≡ take start old ++ preorder t
