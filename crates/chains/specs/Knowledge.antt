-- What a place knows of other processes (the profile of the clocks), and which cuts are consistent by it.
use Rattle.std.specs.Prelude.{◌≡◌, ◌≢◌, ℕ, ◌≤◌, ◌<◌, List, length, Option, Some, None, if◌then◌else◌}
use Rattle.std.specs.Option.{option_map}
use Rattle.event_tree.specs.EventTree.{EventTree}
use Rattle.event_tree.specs.Values.{ExceedsOn}
use Rattle.stamp.specs.declared.stamp.Stamp.{Stamp}
use Rattle.report_line.specs.declared.report.Report.{Report}
use Rattle.chains.specs.declared.position.Position.{Position}
use Rattle.chains.specs.declared.position.Position.TheVariants.{At, Retired}
use Rattle.chains.specs.Processes.{known, last_events}
use Rattle.chains.specs.Elements.{name_of, element}
use Rattle.chains.specs.declared.position.Place.{Place}
use Rattle.chains.specs.Positions.{is_retired, position_in}

-- the events of a retired process are those of its retirement, which is its last report
abbrev pub retired_events : List Report → ℕ → Option EventTree
retired_events accepted p = if is_retired accepted p then option_map (λ name. last_events name accepted) (name_of accepted p) else None

-- the events of a place: those of its element, or of the retirement
abbrev pub events_at : List Report → Place → Option EventTree
events_at accepted x = events_of x.position
  where
    events_of : Position → Option EventTree
    events_of (At k) = option_map (λ y. y.events) (element accepted x.process k)
    events_of Retired = retired_events accepted x.process

-- the place is beyond the element: greater at some point that the element's id owns
pub record IsBeyond (accepted : List Report) (x : Place) (y : Stamp) : Type 0 where
  pub events : EventTree
  pub there : events_at accepted x ≡ Some events
  pub exceeds : ExceedsOn y.id events y.events

-- x knows the process q after its position k: it is beyond some element of q that is neither before k nor before the first
pub record KnowsAfter (accepted : List Report) (x : Place) (q k : ℕ) : Type 0 where
  pub later : ℕ
  pub stamp : Stamp
  pub from : k ≤ later
  pub first : 1 ≤ later
  pub is_element : element accepted q later ≡ Some stamp
  pub beyond : IsBeyond accepted x stamp

-- nobody knows a process after it retired, nor itself
abbrev pub Knows : List Report → Place → ℕ → Position → Type 0
Knows accepted x q (At k) = (q ≢ x.process) × KnowsAfter accepted x q k
Knows accepted x q Retired = ⊥

-- no chosen place knows a process after that process's chosen position
abbrev pub IsStampConsistent : List Report → List Position → Type 0
IsStampConsistent accepted cut =
    (p q : ℕ) → p < length (known accepted) → q < length (known accepted)
    → ¬ Knows accepted (record { process = p; position = position_in cut p }) q (position_in cut q)
