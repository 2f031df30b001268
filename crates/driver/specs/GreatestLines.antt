-- The world may return to the line that is answered for what it reported.
use Rattle.std.specs.Prelude.{◌≡◌, ℕ, List, map}
use Rattle.report_line.specs.histories.History.{Name}
use Rattle.chains.specs.declared.position.Position.{Position}
use Rattle.chains.specs.Failures.{IsFailedSet}
use Rattle.chains.specs.Greatest.{IsGreatestCut}
use Rattle.chains.specs.Processes.{known}
use Rattle.chains.specs.Settled.{settled}
use Rattle.law_lines.specs.Places.{IsPremise}
use Rattle.driver.specs.declared.fault.StepFault.{StepFault}
use Rattle.driver.specs.declared.fault.StepFault.TheVariants.{Memory}
use Rattle.driver.specs.declared.line.NamedPosition.{NamedPosition}
use Rattle.driver.specs.Chronicle.{Chronicle}
use Rattle.driver.specs.Lines.{reported, names_of, IsNamedOnce, positions_by}
use Rattle.driver.specs.Settling.{HasUnknownName, IsClosedLine, Settles, RefusesLine}

-- Where the reports of a world fold, the greatest stamp-consistent cut of them, by names, is a line to return to.
abbrev pub GreatestLineIsClosed : Type 0
GreatestLineIsClosed =
    (w : Chronicle) (failed : List Name) (numbers : List ℕ) (cut : List Position) (line : List NamedPosition) → IsPremise w.root w.history (reported w)
    → IsFailedSet (reported w) failed numbers → IsGreatestCut (reported w) numbers cut → IsNamedOnce line → positions_by line (reported w) ≡ cut
    → IsClosedLine w failed line

-- The line that names just the known processes, in order of birth, each at its position in that cut, has no unknown name, and is a line
-- to return to. So the world refuses it for want of memory alone.
abbrev pub RecoveryLineIsTaken : Type 0
RecoveryLineIsTaken =
    (w : Chronicle) (failed : List Name) (numbers : List ℕ) (cut : List Position) (line : List NamedPosition) → IsPremise w.root w.history (reported w)
    → IsFailedSet (reported w) failed numbers → IsGreatestCut (reported w) numbers cut → names_of line ≡ known (reported w) → map (λ x. x.position) line ≡ cut
    → (¬ HasUnknownName w failed line) × IsClosedLine w failed line × ((fault : StepFault) → RefusesLine w failed line fault → fault ≡ Memory)

-- After a settlement on a line the world reported just what that line keeps of what it reported before, in the same order.
abbrev pub SettlementKeepsReports : Type 0
SettlementKeepsReports =
    (old new : Chronicle) (failed : List Name) (line : List NamedPosition) → IsPremise old.root old.history (reported old) → IsClosedLine old failed line
    → Settles old line new → reported new ≡ settled (reported old) (positions_by line (reported old))
