-- The law of histories: who is beyond a birth, a check or a presentation has something in its past that came after it.
use Rattle.std.specs.Prelude.{Some, ◌≡◌, ◌⊎◌, ◌<◌, ◌≤◌, ◌≢◌, ◌↔◌, IsTrue}
use Rattle.id_tree.specs.Points.{Point, owns}
use Rattle.event_tree.specs.Values.{IsAtOrBelow, ExceedsOn}
use Rattle.report_line.specs.declared.step.StepKind.TheVariants.{Check, Present, Retire}
use Rattle.report_line.specs.histories.History.{last_of, status, Name, History, EventKind, Birth, Does, Event}
use Rattle.report_line.specs.histories.Lawful.{IsLawful}
use Rattle.report_line.specs.histories.Events.{Occurs, Edge, IsInPast}

-- A birth, a check or a presentation.
pub data IsRestorable : EventKind → Type 0 where
  birth : IsRestorable Birth
  check : IsRestorable (Does Check)
  presentation : IsRestorable (Does Present)

-- The value of `x` is greater than that of `y` at some point that the id of `y` owns.
abbrev pub IsBeyond : Event → Event → Type 0
IsBeyond x y = ExceedsOn y.id x.values y.values

-- Some event of the process of `y`, and later than `y`, is in the past of `x`.
pub record LaterIsInPast (root : Name) (h : History) (x y : Event) : Type 0 where
  pub seen : Event
  pub occurs : Occurs root h seen
  pub same_process : seen.process ≡ y.process
  pub later : y.number < seen.number
  pub in_past : IsInPast root h seen x

-- Some event of the process is in the past of `x`.
pub record SomeIsInPast (root : Name) (h : History) (x : Event) (process : Name) : Type 0 where
  pub seen : Event
  pub occurs : Occurs root h seen
  pub same_process : seen.process ≡ process
  pub in_past : IsInPast root h seen x

-- An event is beyond such an event, of another process or of its own, exactly where something later of that process is in its past.
abbrev pub BeyondIsLaterInPast : Type 0
BeyondIsLaterInPast =
    (root : Name) (h : History) (x y : Event)
    → IsLawful root h → Occurs root h x → Occurs root h y → IsRestorable y.kind
    → IsBeyond x y ↔ LaterIsInPast root h x y

-- An event is beyond the birth of another process exactly where anything of that process is in its past.
abbrev pub BeyondBirthIsSomeInPast : Type 0
BeyondBirthIsSomeInPast =
    (root : Name) (h : History) (x y : Event)
    → IsLawful root h → Occurs root h x → Occurs root h y → y.kind ≡ Birth → x.process ≢ y.process
    → IsBeyond x y ↔ SomeIsInPast root h x y.process

-- Of two events of one process the earlier is in the past of the later.
abbrev pub OwnEventsAreInOrder : Type 0
OwnEventsAreInOrder =
    (root : Name) (h : History) (x y : Event)
    → IsLawful root h → Occurs root h x → Occurs root h y → x.process ≡ y.process → x.number < y.number → IsInPast root h x y

-- What is in the past of an event has no greater value at any point.
abbrev pub ValuesNeverFall : Type 0
ValuesNeverFall =
    (root : Name) (h : History) (x y : Event) → IsLawful root h → IsInPast root h x y → IsAtOrBelow x.values y.values

-- A process that lives, or that retired and was not absorbed, and whose id owns the point.
pub record IsHolder (root : Name) (h : History) (t : Point) (p : Name) : Type 0 where
  pub last : Event
  pub is_last : last_of (status root h p) ≡ Some last
  pub owned : IsTrue (owns last.id t)

-- At each time each point has exactly one holder.
abbrev pub EachPointHasOneHolder : Type 0
EachPointHasOneHolder =
    (root : Name) (h : History) (t : Point) → IsLawful root h
    → (p : Name) × IsHolder root h t p × ((q : Name) → IsHolder root h t q → q ≡ p)

-- The events whose process owns a point after them lie on one path of edges: of two of them one is in the past of the other.
abbrev pub OwnersLieOnOnePath : Type 0
OwnersLieOnOnePath =
    (root : Name) (h : History) (x y : Event) (t : Point) → IsLawful root h → Occurs root h x → Occurs root h y
    → IsTrue (owns x.id t) → IsTrue (owns y.id t) → IsInPast root h x y ⊎ IsInPast root h y x

-- Both ends of an edge are events of the history.
abbrev pub BothEndsOccur : Type 0
BothEndsOccur = (root : Name) (h : History) (x y : Event) → Edge root h x y → Occurs root h x × Occurs root h y

-- No event of a process follows its retirement.
abbrev pub NothingFollowsRetirement : Type 0
NothingFollowsRetirement =
    (root : Name) (h : History) (d e : Event) (q : Name) → IsLawful root h → Occurs root h d → d.kind ≡ Does (Retire q)
    → Occurs root h e → e.process ≡ d.process → e.number ≤ d.number
