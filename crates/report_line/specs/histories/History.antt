-- Histories: the steps of processes, their events, and how each process stands after them.
use Rattle.std.specs.Prelude.{ℕ, Bool, false, Option, Some, None, if◌then◌else◌, List, [], ◌∷◌, length}
use Rattle.std.specs.Str.{bytes_eq}
use Rattle.id_tree.specs.IdTree.{IdTree, One}
use Rattle.event_tree.specs.EventTree.{EventTree, Leaf}
use Rattle.report_line.specs.declared.step.StepKind.{StepKind}
use Rattle.report_line.specs.declared.step.StepKind.TheVariants.{Send, Fork, Retire, Absorb}
use Rattle.report_line.specs.declared.step.Step.{Step}

-- the name of a process, as its bytes
abbrev pub Name : Type 0
Name = List ℕ

-- the name of a message, as its bytes; messages and processes have names of their own
abbrev pub Message : Type 0
Message = List ℕ

-- the steps of all processes, the newest first
abbrev pub History : Type 0
History = List Step

-- what an event is: the birth of a process, or what it does in a step
pub data EventKind : Type 0 where
  Birth : EventKind
  Does : StepKind → EventKind

-- An event of a process, with its id and values after it. `number` says how many steps the history then has.
pub record Event : Type 0 where
  pub process : Name
  pub number : ℕ
  pub kind : EventKind
  pub id : IdTree
  pub values : EventTree

-- the birth of the root, before all steps
abbrev pub birth_of_root : Name → Event
birth_of_root root = record { process = root; number = 0; kind = Birth; id = One; values = Leaf 0 }

-- the event of the step `s` after the steps `h`
abbrev pub event_of : History → Step → Event
event_of h s = record { process = s.process; number = length (s ∷ h); kind = Does s.step_kind; id = s.stamp.id; values = s.stamp.events }

-- the birth of the process `child` by the step `s` after the steps `h`
abbrev pub birth_by : History → Step → Name → IdTree → Event
birth_by h s child given = record { process = child; number = length (s ∷ h); kind = Birth; id = given; values = s.stamp.events }

-- How a process stands: it is not born; or it lives, and this is its last event; or it retired by this last event, into
-- this process; or it retired and was absorbed.
pub data Status : Type 0 where
  Unborn : Status
  Living : (last : Event) → Status
  Retired : (last : Event) → (into : Name) → Status
  Absorbed : Status

-- how the acting process stands after what it does
abbrev pub status_of_actor : StepKind → Event → Status
status_of_actor (Retire target) last = Retired last target
status_of_actor _ last = Living last

-- how another process `p` stands after the step `s`, by which it may be born or absorbed
abbrev pub status_of_other : History → Step → StepKind → Name → Status → Status
status_of_other h s (Fork child given) p before = if bytes_eq p child then Living (birth_by h s child given) else before
status_of_other h s (Absorb retired) p before = if bytes_eq p retired then Absorbed else before
status_of_other h s _ p before = before

-- how a process stands after a history of this root
unfoldable pub status : Name → History → Name → Status
status root [] p = if bytes_eq p root then Living (birth_of_root root) else Unborn
status root (s ∷ h) p =
    if bytes_eq p s.process
    then status_of_actor s.step_kind (event_of h s)
    else status_of_other h s s.step_kind p (status root h p)

-- the last event of a process that lives, or that retired and was not absorbed
abbrev pub last_of : Status → Option Event
last_of Unborn = None
last_of (Living last) = Some last
last_of (Retired last into) = Some last
last_of Absorbed = None

-- whether this message is sent
abbrev pub sends : StepKind → Message → Bool
sends (Send sent) m = bytes_eq sent m
sends _ m = false

-- the event that sent a message
unfoldable pub sending : History → Message → Option Event
sending [] m = None
sending (s ∷ h) m = if sends s.step_kind m then Some (event_of h s) else sending h m
