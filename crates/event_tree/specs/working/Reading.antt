-- How a text is read, a byte at a time.
use Rattle.std.specs.Prelude.{◌≡◌, ⊤, ℕ, ◌+◌, ◌-◌, ◌*◌, ◌==◌, nat_le, min, max, Bool, false, not, ◌&&◌, ◌||◌, if◌then◌else◌, List, [], ◌∷◌, Option, Some, None, option_and_then, option_map, reverse, map}
use Rattle.std.specs.Char.{is_ascii_digit}
use Rattle.id_tree.specs.NormalForm.{depth_limit}
use Rattle.event_tree.specs.EventTree.{EventTree, Leaf, Node}
use Rattle.event_tree.specs.NormalForm.{value_limit}
use Rattle.event_tree.specs.declared.fault.EventsFault.{EventsFault}
use Rattle.event_tree.specs.declared.fault.EventsFault.TheVariants as faults
use Rattle.event_tree.specs.declared.reading.first_fault.Role.{Role}
use Rattle.event_tree.specs.declared.reading.first_fault.Role.TheVariants.{Base, Whole}
use Rattle.event_tree.specs.declared.reading.first_fault.Part.{Part}
use Rattle.event_tree.specs.declared.reading.first_fault.Part.TheVariants.{Normal, NotNormal}
use Rattle.event_tree.specs.declared.reading.first_fault.Pending.{Pending}
use Rattle.event_tree.specs.declared.reading.first_fault.Pending.TheVariants as pendings
use Rattle.event_tree.specs.declared.reading.first_fault.Last.{Last}
use Rattle.event_tree.specs.declared.reading.first_fault.Last.TheVariants as lasts

-- What is known of a tree that was read. Of a normal one: whether its root is 0, its depth, where 41 stands for all that is
-- deeper, and its greatest value if it is within both limits.
pub data Verdict : Type 0 where
  normal : Bool → ℕ → Option ℕ → Verdict
  unnormal : Verdict

-- a number, if it is within the limit
abbrev pub capped : ℕ → Option ℕ
capped n = if nat_le n value_limit then Some n else None

abbrev pub is_zero : Option ℕ → Bool
is_zero None = false
is_zero (Some n) = n == 0

abbrev pub leaf_verdict : Option ℕ → Verdict
leaf_verdict None = normal false 0 None
leaf_verdict (Some n) = normal (n == 0) 0 (Some n)

-- two normal halves, with these roots and depths, make a normal node: some root is 0, and not both are the leaf 0
abbrev pub are_normal_halves : Bool → ℕ → Bool → ℕ → Bool
are_normal_halves y g z h = (y || z) && not ((y && z) && (max g h == 0))

abbrev pub depth_above : ℕ → ℕ → ℕ
depth_above g h = min (max g h) depth_limit + 1

abbrev pub node_within : ℕ → ℕ → ℕ → Bool
node_within n a b = nat_le (n + max a b) value_limit

-- the greatest value of a node of halves with these, if it is within both limits
abbrev pub node_kept : ℕ → Option ℕ → Option ℕ → Option ℕ → Option ℕ
node_kept h None s t = None
node_kept h (Some n) None t = None
node_kept h (Some n) (Some a) None = None
node_kept h (Some n) (Some a) (Some b) = if nat_le h depth_limit && node_within n a b then Some (n + max a b) else None

abbrev pub node_verdict : Option ℕ → Verdict → Verdict → Verdict
node_verdict n unnormal w = unnormal
node_verdict n (normal y g s) unnormal = unnormal
node_verdict n (normal y g s) (normal z h t) =
    if are_normal_halves y g z h then normal (is_zero n) (depth_above g h) (node_kept (depth_above g h) n s t) else unnormal

abbrev pub verdict_of : EventTree → Verdict
verdict_of (Leaf n) = leaf_verdict (capped n)
verdict_of (Node n a b) = node_verdict (capped n) (verdict_of a) (verdict_of b)

-- a node whose end is still to come: its base, and its left half if that was read
pub data Open : Type 0 where
  left : Option ℕ → Open
  right : Option ℕ → Verdict → Open

-- what was read last: nothing of a base or of a whole tree, a number, or a tree with its closing bracket
pub data Ending : Type 0 where
  awaited : Role → Ending
  number : Role → Option ℕ → Ending
  tree : Verdict → Ending

-- the nodes whose end is still to come, the innermost first, and what was read last
pub record State : Type 0 where
  pub open_nodes : List Open
  pub last : Ending

abbrev pub start : State
start = record { open_nodes = []; last = awaited Whole }

-- the tree that may end here
abbrev pub ended : Ending → Option Verdict
ended (awaited r) = None
ended (number Base n) = None
ended (number Whole n) = Some (leaf_verdict n)
ended (tree v) = Some v

abbrev pub more : Role → Option ℕ → ℕ → Option Ending
more r None byte = Some (number r None)
more r (Some n) byte = if n == 0 then None else Some (number r (capped (n * 10 + (byte - 48))))

-- after a digit
abbrev pub digit_read : Ending → ℕ → Option Ending
digit_read (awaited r) byte = Some (number r (Some (byte - 48)))
digit_read (number r n) byte = more r n byte
digit_read (tree v) byte = None

-- after an opening bracket
abbrev pub opened : Ending → Option Ending
opened (awaited Base) = None
opened (awaited Whole) = Some (awaited Base)
opened (number r n) = None
opened (tree v) = None

abbrev pub halved : List Open → Verdict → Option State
halved [] v = None
halved (left n ∷ opens) v = Some (record { open_nodes = right n v ∷ opens; last = awaited Whole })
halved (right n u ∷ opens) v = None

-- after a comma
abbrev pub parted : List Open → Ending → Option State
parted opens (awaited r) = None
parted opens (number Base n) = Some (record { open_nodes = left n ∷ opens; last = awaited Whole })
parted opens (number Whole n) = halved opens (leaf_verdict n)
parted opens (tree v) = halved opens v

abbrev pub joined : List Open → Verdict → Option State
joined [] v = None
joined (left n ∷ opens) v = None
joined (right n u ∷ opens) v = Some (record { open_nodes = opens; last = tree (node_verdict n u v) })

-- after a closing bracket
abbrev pub closed : List Open → Ending → Option State
closed opens (awaited r) = None
closed opens (number Base n) = None
closed opens (number Whole n) = joined opens (leaf_verdict n)
closed opens (tree v) = joined opens v

abbrev pub with_last : List Open → Option Ending → Option State
with_last opens last = option_map (λ next. record { open_nodes = opens; last = next }) last

-- the state after a byte; no text has that byte there if there is none
abbrev pub step_of : State → ℕ → Option State
step_of s byte =
    if is_ascii_digit byte then with_last s.open_nodes (digit_read s.last byte)
    else (if byte == 40 then with_last s.open_nodes (opened s.last)
    else (if byte == 44 then parted s.open_nodes s.last
    else (if byte == 41 then closed s.open_nodes s.last else None)))

unfoldable pub run : State → List ℕ → Option State
run s [] = Some s
run s (byte ∷ bytes) = option_and_then (λ next. run next bytes) (step_of s byte)

-- what is known of the tree, if all nodes are closed
abbrev pub result_of : List Open → Ending → Option Verdict
result_of [] last = ended last
result_of (o ∷ opens) last = None

-- what is known of the tree that the bytes spell, if they spell one
unfoldable pub reading : List ℕ → Option Verdict
reading bytes = option_and_then (λ s. result_of s.open_nodes s.last) (run start bytes)

-- what the reader's values stand for
abbrev pub verdict_shown : Part → Verdict
verdict_shown (Normal z h most) = normal z h most
verdict_shown NotNormal = unnormal

abbrev pub pending_shown : Pending → Open
pending_shown (pendings.Left n) = left n
pending_shown (pendings.Right n part) = right n (verdict_shown part)

abbrev pub last_shown : Last → Ending
last_shown (lasts.Awaited r) = awaited r
last_shown (lasts.Number r n) = number r n
last_shown (lasts.Tree part) = tree (verdict_shown part)

abbrev pub opens_shown : List Pending → List Open
opens_shown stack = reverse (map pending_shown stack)

abbrev pub state_shown : List Pending → Last → State
state_shown stack last = record { open_nodes = opens_shown stack; last = last_shown last }

-- the only faults of reading: nothing comes of it, or no memory
abbrev pub IsReadFault : {A : Type 0} → EventsFault → Option A → Type 0
IsReadFault faults.Syntax after = after ≡ None
IsReadFault faults.NotNormal after = ⊥
IsReadFault faults.TooDeep after = ⊥
IsReadFault faults.TooLarge after = ⊥
IsReadFault faults.Memory after = ⊤
