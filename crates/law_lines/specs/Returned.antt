-- After a settlement each process is at its position in the line.
use Rattle.std.specs.Prelude.{◌≡◌, ℕ, zero, suc, ◌≤◌, List, Some}
use Rattle.report_line.specs.declared.report.Report.{Report}
use Rattle.report_line.specs.declared.step.StepKind.TheVariants.{Retire}
use Rattle.report_line.specs.histories.History.{Name, History, Does, Event}
use Rattle.report_line.specs.histories.Events.{Occurs}
use Rattle.law_histories.specs.Rules.{IsNewest, IsNew}
use Rattle.chains.specs.declared.position.Position.{Position}
use Rattle.chains.specs.declared.position.Position.TheVariants.{At, Retired}
use Rattle.chains.specs.Processes.{IsKnown}
use Rattle.chains.specs.Elements.{name_of}
use Rattle.chains.specs.Positions.{position_in}
use Rattle.chains.specs.Greatest.{IsGreatestCut}
use Rattle.law_histories.specs.Kept.{Cut, kept}
use Rattle.law_lines.specs.Places.{IsPremise, IsEventAt, place}
use Rattle.law_lines.specs.Settled.{settled}
use Rattle.law_lines.specs.Agreeing.{HasEventsOf}

-- The process is known and lives, and its newest event is that of its element k, whatever its number by order of birth.
pub record IsAtElement (root : Name) (h : History) (accepted : List Report) (p : Name) (k : ℕ) : Type 0 where
  pub is_known : IsKnown accepted p
  pub event : Event
  pub is_event : (i : ℕ) → name_of accepted i ≡ Some p → IsEventAt root h accepted (place i (At k)) event
  pub newest : IsNewest root h p event

-- The process is known, and its newest event is its retirement.
pub record IsAtRetirement (root : Name) (h : History) (accepted : List Report) (p : Name) : Type 0 where
  pub is_known : IsKnown accepted p
  pub event : Event
  pub is_event : (i : ℕ) → name_of accepted i ≡ Some p → IsEventAt root h accepted (place i Retired) event
  pub retires : (q : Name) × (event.kind ≡ Does (Retire q))
  pub newest : (y : Event) → Occurs root h y → y.process ≡ p → y.number ≤ event.number

-- The process is at this position: it has no event, so its name is new; or it is at an element, or retired.
abbrev pub IsAt : Name → History → List Report → Name → Position → Type 0
IsAt root h accepted p (At zero) = IsNew root h p
IsAt root h accepted p (At (suc k)) = IsAtElement root h accepted p (suc k)
IsAt root h accepted p Retired = IsAtRetirement root h accepted p

-- In what is kept each process is at its position in the line.
abbrev pub EachReturnsToItsPosition : Type 0
EachReturnsToItsPosition =
    (root : Name) (h : History) (accepted : List Report) (failed : List ℕ) (line : List Position) (cut : Cut) (i : ℕ) (p : Name) → IsPremise root h accepted
    → IsGreatestCut accepted failed line → HasEventsOf root h accepted line cut → name_of accepted i ≡ Some p
    → IsAt root (kept cut h) (settled accepted line) p (position_in line i)
