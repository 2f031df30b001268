-- The events of places and of cuts, in a history.
use Rattle.std.specs.Prelude.{◌≡◌, ℕ, zero, suc, ◌<◌, ◌≤◌, List, Some, length, ⊤}
use Rattle.report_line.specs.declared.report.Report.{Report}
use Rattle.report_line.specs.histories.History.{Name, History, Event}
use Rattle.report_line.specs.histories.Lawful.{IsLawful}
use Rattle.report_line.specs.histories.Events.{Occurs, Edge, IsInPast}
use Rattle.chains.specs.declared.position.Place.{Place}
use Rattle.chains.specs.declared.position.Position.{Position}
use Rattle.chains.specs.declared.position.Position.TheVariants.{At, Retired}
use Rattle.chains.specs.Processes.{known}
use Rattle.chains.specs.Elements.{name_of}
use Rattle.chains.specs.Positions.{position_in, IsCut}
use Rattle.chains.specs.Knowledge.{events_at}
use Rattle.chains.specs.Folded.{IsFolded}
use Rattle.chains.specs.Agrees.{Agrees}

-- what the laws of places ask for: a folded list, and a lawful history that it agrees with
pub record IsPremise (root : Name) (h : History) (accepted : List Report) : Type 0 where
  pub folded : IsFolded accepted
  pub lawful : IsLawful root h
  pub agrees : Agrees root h accepted

-- The event of a place: the one of its process that has its values. (No other event of the process has these values.)
pub record IsEventAt (root : Name) (h : History) (accepted : List Report) (x : Place) (e : Event) : Type 0 where
  pub occurs : Occurs root h e
  pub of_process : name_of accepted x.process ≡ Some e.process
  pub values : events_at accepted x ≡ Some e.values

abbrev pub place : ℕ → Position → Place
place p k = record { process = p; position = k }

-- An event of the process is at or before the position: none at 0, all where it is retired, and else those up to the
-- event of the element.
abbrev pub IsUpTo : Name → History → List Report → ℕ → Position → Event → Type 0
IsUpTo root h accepted p (At zero) e = ⊥
IsUpTo root h accepted p (At (suc k)) e = (x : Event) × IsEventAt root h accepted (place p (At (suc k))) x × (e.number ≤ x.number)
IsUpTo root h accepted p Retired e = ⊤

-- some event of process q after its position k is in the past of the event x
pub record SomeAfterIsInPast (root : Name) (h : History) (accepted : List Report) (x : Event) (q : ℕ) (k : Position) : Type 0 where
  pub seen : Event
  pub occurs : Occurs root h seen
  pub of_process : name_of accepted q ≡ Some seen.process
  pub after : ¬ IsUpTo root h accepted q k seen
  pub in_past : IsInPast root h seen x

-- The events of a cut: those at or before the position of their process. A process that is not known has none.
pub record IsInCut (root : Name) (h : History) (accepted : List Report) (cut : List Position) (e : Event) : Type 0 where
  pub process : ℕ
  pub is_known : process < length (known accepted)
  pub of_process : name_of accepted process ≡ Some e.process
  pub up_to : IsUpTo root h accepted process (position_in cut process) e

-- With each event the cut has those from which an edge leads to it: no receive without its send (2002).
abbrev pub IsClosed : Name → History → List Report → List Position → Type 0
IsClosed root h accepted cut = (a b : Event) → Edge root h a b → IsInCut root h accepted cut b → IsInCut root h accepted cut a

-- a closed cut, each process unborn, at a surviving element or retired
pub record IsClosedCut (root : Name) (h : History) (accepted : List Report) (failed : List ℕ) (cut : List Position) : Type 0 where
  pub is_cut : IsCut accepted failed cut
  pub closed : IsClosed root h accepted cut
