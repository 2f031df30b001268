-- Stamps of interval tree clocks (2008): an id and events, as they are kept and written.
use Rattle.std.specs.Prelude.{ℕ, Bool, ◌==◌, ◌||◌, List, ◌∷◌, ◌++◌}
use Rattle.id_tree.specs.NormalForm.{IsId}
use Rattle.id_tree.specs.Spelling as ids
use Rattle.id_tree.specs.Spelling.{is_tree_byte}
use Rattle.event_tree.specs.NormalForm.{IsEvents}
use Rattle.event_tree.specs.Spelling as events
use Rattle.stamp.specs.declared.stamp.Stamp.{Stamp}

-- what holds of each stamp: both of its trees are in normal form and within the limits
pub record IsStamp (s : Stamp) : Type 0 where
  pub id : IsId s.id
  pub events : IsEvents s.events

-- the id, a semicolon and the events
abbrev pub stamp_text : Stamp → List ℕ
stamp_text s = ids.spelling s.id ++ 59 ∷ events.spelling s.events

-- a byte of the texts of stamps: one of a tree's, or the semicolon
abbrev pub is_stamp_byte : ℕ → Bool
is_stamp_byte b = is_tree_byte b || b == 59
