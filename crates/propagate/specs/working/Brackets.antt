-- Working definitions: how a process's next rank is searched.
use Rattle.std.specs.Prelude.{ℕ, ◌≤◌, ◌<◌, List, slice_index}
use Rattle.report_line.specs.declared.report.Report.{Report}
use Rattle.knows_row.specs.Looks.{KnowsOne}
use Rattle.propagate.specs.working.Ranks.{IsClearRank}
use Rattle.propagate.specs.declared.falls.Bracket.{Bracket}

-- a rank of p that is clear, and a greater one at or below the cut's at which p knows one of these processes
pub record IsBracket (accepted : List Report) (fell cut : List ℕ) (p : ℕ) (b : Bracket) : Type 0 where
  pub order : b.low < b.high
  pub within : b.high ≤ slice_index cut p
  pub clear : IsClearRank accepted cut p b.low
  pub known : KnowsOne accepted fell cut p b.high
