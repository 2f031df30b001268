-- A tree that is read from the front of a text, straight into its entries, where nodes that are open are linked.
use Rattle.std.specs.Prelude.{◌≡◌, ◌≤◌, ◌<◌, ◌+◌, ◌-◌, ◌*◌, ◌/◌, ◌%◌, ◌==◌, ◌&&◌, nat_le, not, if◌then◌else◌, ⊤, ℕ, zero, suc, Bool, true, false, List, [], ◌∷◌, ◌++◌, length, take, drop, slice_index_or, slice_set}
use Rattle.std.specs.Fmt.{decimal}
use Rattle.event_tree.specs.EventTree.{EventTree, Leaf, Node}
use Rattle.event_tree.specs.NormalForm.{IsNormal, depth, greatest, IsEvents, value_limit}
use Rattle.event_tree.specs.Spelling.{spelling}
use Rattle.event_tree.specs.working.Entries.{entry, blank, preorder, tree_of, IsPreorder}
use Rattle.event_tree.specs.declared.layout.entries.Entry.{Entry}
use Rattle.event_tree.specs.declared.reading.into_entries.Around.{Around}
use Rattle.event_tree.specs.declared.reading.into_entries.Halted.{Halted}
use Rattle.event_tree.specs.declared.reading.into_entries.Reached.{Reached}
use Rattle.event_tree.specs.declared.reading.into_entries.Reached.TheVariants.{Whole, Full, Fault}

abbrev pub is_leaf : EventTree → Bool
is_leaf (Leaf n) = true
is_leaf (Node n a b) = false

-- two halves in normal form, with these roots, of which these are leaves, make a node in normal form
abbrev pub are_halves : ℕ → Bool → ℕ → Bool → Bool
are_halves m y n z = if m == 0 then not ((y && z) && (n == 0)) else (n == 0)

-- so do those at whose front these entries stand
abbrev pub are_node : Entry → Entry → Bool
are_node e f = are_halves e.value (nat_le e.size 1) f.value (nat_le f.size 1)

-- the entry at start became that of a node of the two halves behind it, since these make one in normal form
pub record IsClosed (start end : ℕ) (mark : Entry) (before after : List Entry) : Type 0 where
  pub halves : are_node (slice_index_or before (start + 1) blank) (slice_index_or before (start + 1 + (slice_index_or before (start + 1) blank).size) blank) ≡ true
  pub mark_is : mark ≡ slice_index_or before start blank
  pub sealed : after ≡ slice_set before start (entry mark.value (end - start))

abbrev pub around_at : ℕ → ℕ → ℕ → Around
around_at halves last sum = record { halves = halves; last = last; sum = sum }

-- what was read of an open node's halves is its first one, with the comma behind it
pub record IsFirstRead (levels sum : ℕ) (said : List ℕ) (half : List Entry) : Type 0 where
  pub left : EventTree
  pub spelled : said ≡ spelling left ++ 44 ∷ []
  pub are : half ≡ preorder left
  pub normal : IsNormal left
  pub shallow : depth left + levels + 1 ≤ 40
  pub small : sum + greatest left ≤ value_limit

-- an open node with so many around it ends this text and these entries, and stands behind that text and those entries
pub record IsInnermost (levels halves last link sum : ℕ) (text before : List ℕ) (es front : List Entry) (above : ℕ) : Type 0 where
  pub base : ℕ
  pub said : List ℕ
  pub half : List Entry
  pub spelled : text ≡ before ++ 40 ∷ (decimal base ++ 44 ∷ said)
  pub are : es ≡ front ++ entry base link ∷ half
  pub last_is : length front ≡ last
  pub sum_is : sum ≡ above + base
  pub unread : halves % 2 ≡ 0 → (said ≡ []) × (half ≡ [])
  pub first_read : halves % 2 ≡ 1 → IsFirstRead levels sum said half

-- so many nodes are open, in these halves, with this text and these entries so far, and this sum of their bases
abbrev pub AreOpen : ℕ → ℕ → ℕ → ℕ → List ℕ → List Entry → Type 0
AreOpen zero halves last sum text es = (text ≡ []) × (es ≡ []) × (sum ≡ 0) × (halves ≡ 2)
AreOpen (suc d) halves last sum text es =
    (before : List ℕ) × (front : List Entry) × (above : ℕ) × (link : ℕ) × IsInnermost d halves last link sum text before es front above × AreOpen d (halves / 2) link above before front

-- a tree is to be read next: what stands before it are open nodes
pub record IsUnread (whole text : List ℕ) (around : Around) (room : List Entry) (end : ℕ) : Type 0 where
  pub levels : ℕ
  pub so_far : List ℕ
  pub spelled : whole ≡ so_far ++ text
  pub open_there : AreOpen levels around.halves around.last around.sum so_far (take end room)
  pub low : levels ≤ 40
  pub within : end ≤ length room
  pub fits : length room < 4294967296

-- a tree was read last: what stands before it are open nodes
pub record IsTreeRead (whole text : List ℕ) (around : Around) (room : List Entry) (end : ℕ) : Type 0 where
  pub levels : ℕ
  pub tree : EventTree
  pub so_far : List ℕ
  pub front : List Entry
  pub spelled : whole ≡ so_far ++ (spelling tree ++ text)
  pub are : take end room ≡ front ++ preorder tree
  pub open_there : AreOpen levels around.halves around.last around.sum so_far front
  pub normal : IsNormal tree
  pub shallow : depth tree + levels ≤ 40
  pub small : around.sum + greatest tree ≤ value_limit
  pub within : end ≤ length room
  pub fits : length room < 4294967296

-- so it is for some whole text
pub record HasTreeRead (text : List ℕ) (around : Around) (room : List Entry) (end : ℕ) : Type 0 where
  pub whole : List ℕ
  pub read : IsTreeRead whole text around room end

-- nodes were closed behind a tree, and the innermost that is left has its second half before it
pub record AreClosed (text rest : List ℕ) (around left : Around) (room after : List Entry) (end : ℕ) : Type 0 where
  pub read : (whole : List ℕ) → IsTreeRead whole text around room end → IsTreeRead whole rest left after end
  pub in_first : left.halves % 2 ≡ 0
  pub as_long : length after ≡ length room

-- a node was begun: its entry stands in the room, and it is the innermost one
pub record IsBegun (text rest : List ℕ) (around inner : Around) (room after : List Entry) (end : ℕ) : Type 0 where
  pub base : ℕ
  pub spelled : text ≡ 40 ∷ (decimal base ++ 44 ∷ rest)
  pub put : after ≡ slice_set room end (entry base around.last)
  pub inner_is : inner ≡ around_at (around.halves * 2) end (around.sum + base)
  pub free : around.halves < 2199023255552

-- a leaf was read
pub record IsLeafTaken (text rest : List ℕ) (above : ℕ) (room after : List Entry) (end : ℕ) : Type 0 where
  pub root : ℕ
  pub spelled : text ≡ decimal root ++ rest
  pub small : above + root ≤ value_limit
  pub put : after ≡ slice_set room end (entry root 1)

-- the entries are those of an event tree that the whole text spells
pub record IsWhole (text : List ℕ) (entries : List Entry) : Type 0 where
  pub events : IsEvents (tree_of entries)
  pub are : IsPreorder entries
  pub spelled : text ≡ spelling (tree_of entries)

-- a reading halted at a place of the text, where a tree is to be read next
pub record IsHalted (whole : List ℕ) (halted : Halted) (room : List Entry) : Type 0 where
  pub place : halted.at ≤ length whole
  pub unread : IsUnread whole (drop halted.at whole) halted.around room halted.end

-- a reading comes so far, in a room that is no longer for it
abbrev pub IsReached : Reached → List ℕ → List Entry → Type 0
IsReached (Whole end) whole room = IsWhole whole (take end room)
IsReached (Full halted) whole room = IsHalted whole halted room
IsReached Fault whole room = ⊤

pub record Reaches (reached : Reached) (whole : List ℕ) (before room : List Entry) : Type 0 where
  pub as_long : length room ≡ length before
  pub is : IsReached reached whole room

-- the entries in front stayed, and others came behind them
pub record IsWidened (before room : List Entry) : Type 0 where
  pub front : take (length before) room ≡ before
  pub longer : length before < length room
  pub fits : length room < 4294967296
