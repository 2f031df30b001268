-- What the stamps of accepted reports say of every lawful history that agrees with them.
use Rattle.std.specs.Prelude.{◌≡◌, ◌≢◌, ◌⊎◌, ◌↔◌, ◌++◌, Contains, ℕ, true, ◌<◌, ◌≤◌, List, [], Some, length}
use Rattle.stamp.specs.declared.stamp.Stamp.{Stamp}
use Rattle.report_line.specs.declared.report.NumberedReport.{NumberedReport}
use Rattle.report_line.specs.declared.report.Report.{Report}
use Rattle.report_line.specs.declared.report.Report.TheVariants.{Numbered}
use Rattle.report_line.specs.declared.step.StepKind.TheVariants.{Retire}
use Rattle.report_line.specs.histories.History.{Name, History, Event, Birth, Does}
use Rattle.report_line.specs.histories.Lawful.{IsLawful}
use Rattle.report_line.specs.histories.StepReports.{IsReportOf}
use Rattle.law_histories.specs.Law.{IsRestorable}
use Rattle.chains.specs.declared.position.Place.{Place}
use Rattle.chains.specs.declared.position.Position.{Position}
use Rattle.chains.specs.declared.position.Position.TheVariants.{At, Retired}
use Rattle.chains.specs.Processes.{known}
use Rattle.chains.specs.Elements.{element}
use Rattle.chains.specs.Positions.{IsChosen, IsCut, is_retired, position_in, rank}
use Rattle.chains.specs.Knowledge.{Knows, IsStampConsistent}
use Rattle.chains.specs.Folded.{IsFolded}
use Rattle.chains.specs.Agrees.{Agrees, BeginsWith, AreReportsOfSteps}
use Rattle.chains.specs.Greatest.{IsGreatestCut}
use Rattle.law_lines.specs.Places.{IsPremise, IsEventAt, place, SomeAfterIsInPast, IsClosed}
use Rattle.law_lines.specs.Headline.{IsGreatestClosedCut}

-- ---- the events of places

-- Each element has its event, a birth, a check or a present state, with the same id and values.
abbrev pub EachElementHasItsEvent : Type 0
EachElementHasItsEvent =
    (root : Name) (h : History) (accepted : List Report) → IsPremise root h accepted
    → (p k : ℕ) (s : Stamp) → element accepted p k ≡ Some s
    → (e : Event) × IsEventAt root h accepted (place p (At k)) e × (e.id ≡ s.id) × IsRestorable e.kind

-- Each retirement has its event, which is one.
abbrev pub EachRetirementHasItsEvent : Type 0
EachRetirementHasItsEvent =
    (root : Name) (h : History) (accepted : List Report) → IsPremise root h accepted
    → (p : ℕ) → is_retired accepted p ≡ true
    → (e : Event) × IsEventAt root h accepted (place p Retired) e × ((q : Name) × (e.kind ≡ Does (Retire q)))

-- A place has one event.
abbrev pub EachPlaceHasOneEvent : Type 0
EachPlaceHasOneEvent =
    (root : Name) (h : History) (accepted : List Report) → IsPremise root h accepted
    → (x : Place) (d e : Event) → IsEventAt root h accepted x d → IsEventAt root h accepted x e → d ≡ e

-- The elements of a process are in the order of their events.
abbrev pub ElementsAreInOrder : Type 0
ElementsAreInOrder =
    (root : Name) (h : History) (accepted : List Report) → IsPremise root h accepted
    → (p j k : ℕ) (d e : Event) → j < k → IsEventAt root h accepted (place p (At j)) d → IsEventAt root h accepted (place p (At k)) e → d.number < e.number

-- The event of an element is the birth of its process, or the event of the step of an accepted report.
abbrev pub EachElementIsReported : Type 0
EachElementIsReported =
    (root : Name) (h : History) (accepted : List Report) → IsPremise root h accepted
    → (p k : ℕ) (e : Event) → IsEventAt root h accepted (place p (At k)) e
    → (e.kind ≡ Birth) ⊎ ((r : NumberedReport) × (r.process ≡ e.process) × Contains accepted (Numbered r) × IsReportOf root h (Numbered r) e)

-- ---- the law

-- The law: a place knows another process after a position exactly where some event of it after that position is in the
-- place's past.
abbrev pub TheLaw : Type 0
TheLaw =
    (root : Name) (h : History) (accepted : List Report) → IsPremise root h accepted
    → (x : Place) (e : Event) → IsEventAt root h accepted x e
    → (q : ℕ) (k : Position) → q < length (known accepted) → q ≢ x.process → IsChosen accepted [] q k
    → Knows accepted x q k ↔ SomeAfterIsInPast root h accepted e q k

-- A cut is closed exactly where it is stamp-consistent.
abbrev pub ClosedIsConsistent : Type 0
ClosedIsConsistent =
    (root : Name) (h : History) (accepted : List Report) → IsPremise root h accepted
    → (failed : List ℕ) (cut : List Position) → IsCut accepted failed cut
    → IsClosed root h accepted cut ↔ IsStampConsistent accepted cut

-- The greatest stamp-consistent cut is the greatest closed cut.
abbrev pub GreatestIsGreatestClosed : Type 0
GreatestIsGreatestClosed =
    (root : Name) (h : History) (accepted : List Report) → IsPremise root h accepted
    → (failed : List ℕ) (cut : List Position) → IsGreatestCut accepted failed cut
    → IsGreatestClosedCut root h accepted failed cut

-- ---- agreement

-- An accepted list whose BEGIN names the root agrees as soon as each other report in it is the report of a step.
abbrev pub ReportsOfStepsAgree : Type 0
ReportsOfStepsAgree =
    (root : Name) (h : History) (accepted : List Report) → IsFolded accepted → BeginsWith root accepted → AreReportsOfSteps root h accepted
    → Agrees root h accepted

-- With a list each front of it agrees.
abbrev pub FrontsAgree : Type 0
FrontsAgree = (root : Name) (h : History) (front rest : List Report) → Agrees root h (front ++ rest) → Agrees root h front

-- ---- longer lists

-- The line with every process failed is at or before the line for every failed set of every longer list that agrees with a
-- lawful history.
abbrev pub GarbageLineNeverFalls : Type 0
GarbageLineNeverFalls =
    (root : Name) (h : History) (front rest : List Report) → IsFolded (front ++ rest) → IsLawful root h → Agrees root h (front ++ rest)
    → (all failed : List ℕ) (garbage line : List Position) → ((p : ℕ) → p < length (known front) → Contains all p)
    → IsGreatestCut front all garbage → IsGreatestCut (front ++ rest) failed line
    → (p : ℕ) → p < length (known front) → rank (front ++ rest) p (position_in garbage p) ≤ rank (front ++ rest) p (position_in line p)
