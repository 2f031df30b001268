-- What a settlement keeps of an accepted list agrees with what it keeps of the history.
use Rattle.std.specs.Prelude.{◌≡◌, ◌↔◌, ℕ, List, true}
use Rattle.report_line.specs.declared.report.Report.{Report}
use Rattle.report_line.specs.histories.History.{Name, History, Event}
use Rattle.chains.specs.declared.position.Position.{Position}
use Rattle.chains.specs.Positions.{IsCut}
use Rattle.chains.specs.Greatest.{IsConsistentCut}
use Rattle.law_histories.specs.Kept.{Cut, kept}
use Rattle.law_lines.specs.Places.{IsPremise, IsInCut}
use Rattle.law_lines.specs.Settled.{settled}

-- The cut of the history has just the events of the line: those at or before the line's position of their process.
abbrev pub HasEventsOf : Name → History → List Report → List Position → Cut → Type 0
HasEventsOf root h accepted line cut = (e : Event) → (cut e ≡ true) ↔ IsInCut root h accepted line e

-- Each line has such a cut: of each event it can be told whether it is at or before the line.
abbrev pub EachLineHasEvents : Type 0
EachLineHasEvents =
    (root : Name) (h : History) (accepted : List Report) (failed : List ℕ) (line : List Position) → IsPremise root h accepted → IsCut accepted failed line
    → (cut : Cut) × HasEventsOf root h accepted line cut

-- Agreement: of a folded list and a lawful history with which it agrees, what a settlement on a stamp-consistent cut keeps is
-- again a folded list and a lawful history with which it agrees. So the headline holds of what is kept.
abbrev pub SettledAgrees : Type 0
SettledAgrees =
    (root : Name) (h : History) (accepted : List Report) (failed : List ℕ) (line : List Position) (cut : Cut) → IsPremise root h accepted
    → IsConsistentCut accepted failed line → HasEventsOf root h accepted line cut
    → IsPremise root (kept cut h) (settled accepted line)
