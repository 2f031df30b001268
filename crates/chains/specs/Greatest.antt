-- Stamp-consistent cuts, and the greatest of them.
use Rattle.std.specs.Prelude.{ℕ, ◌≤◌, ◌<◌, List, length}
use Rattle.report_line.specs.declared.report.Report.{Report}
use Rattle.chains.specs.declared.position.Position.{Position}
use Rattle.chains.specs.Processes.{known}
use Rattle.chains.specs.Positions.{rank, position_in, IsCut}
use Rattle.chains.specs.Knowledge.{IsStampConsistent}

-- in every process cut c is at or before d
abbrev pub IsAtOrBefore : List Report → List Position → List Position → Type 0
IsAtOrBefore accepted c d = (p : ℕ) → p < length (known accepted) → rank accepted p (position_in c p) ≤ rank accepted p (position_in d p)

pub record IsConsistentCut (accepted : List Report) (failed : List ℕ) (cut : List Position) : Type 0 where
  pub is_cut : IsCut accepted failed cut
  pub consistent : IsStampConsistent accepted cut

-- a stamp-consistent cut that each other one is at or before
pub record IsGreatestCut (accepted : List Report) (failed : List ℕ) (cut : List Position) : Type 0 where
  pub is_one : IsConsistentCut accepted failed cut
  pub greatest : (d : List Position) → IsConsistentCut accepted failed d → IsAtOrBefore accepted d cut
