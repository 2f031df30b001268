-- Lines of longer lists.
use Rattle.std.specs.Prelude.{ℕ, ◌≤◌, ◌<◌, List, ◌++◌, length}
use Rattle.report_line.specs.declared.report.Report.{Report}
use Rattle.report_line.specs.histories.History.{Name, History}
use Rattle.report_line.specs.histories.Lawful.{IsLawful}
use Rattle.chains.specs.declared.position.Position.{Position}
use Rattle.chains.specs.Processes.{known}
use Rattle.chains.specs.Positions.{rank, position_in}
use Rattle.chains.specs.Folded.{IsFolded}
use Rattle.chains.specs.Agrees.{Agrees}
use Rattle.chains.specs.Greatest.{IsGreatestCut}

-- Whatever is accepted later, and whoever fails then: in each process that is known here the cut is at or before the line,
-- where the longer list agrees with a lawful history.
abbrev pub IsBeforeLaterLines : List Report → List Position → Type 0
IsBeforeLaterLines accepted cut =
    (root : Name) (h : History) (later : List Report) → IsFolded (accepted ++ later) → IsLawful root h → Agrees root h (accepted ++ later)
    → (failed : List ℕ) (line : List Position) → IsGreatestCut (accepted ++ later) failed line
    → (p : ℕ) → p < length (known accepted) → rank (accepted ++ later) p (position_in cut p) ≤ rank (accepted ++ later) p (position_in line p)
