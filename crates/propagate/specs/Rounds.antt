-- The rounds of rollback propagation.
use Rattle.std.specs.Prelude.{◌≡◌, ◌≢◌, ℕ, zero, suc, ◌+◌, ◌≤◌, ◌<◌, List, [], length, slice_index}
use Rattle.report_line.specs.declared.report.Report.{Report}
use Rattle.chains.specs.declared.position.Position.{Position}
use Rattle.chains.specs.Processes.{known}
use Rattle.chains.specs.Positions.{rank, position_in, position_at, last_rank, IsChosen, IsLastSurviving}
use Rattle.chains.specs.Knowledge.{Knows}

-- the position of p knows no process after that process's position in the cut
abbrev pub IsClear : List Report → List Position → ℕ → Position → Type 0
IsClear accepted cut p k = (q : ℕ) → q < length (known accepted) → ¬ Knows accepted (record { process = p; position = k }) q (position_in cut q)

-- the greatest position of p at or before the one in the cut that is clear
pub record IsLowered (accepted : List Report) (cut : List Position) (p : ℕ) (k : Position) : Type 0 where
  pub position : IsChosen accepted [] p k
  pub before : rank accepted p k ≤ rank accepted p (position_in cut p)
  pub clear : IsClear accepted cut p k
  pub greatest : (j : Position) → IsChosen accepted [] p j → rank accepted p j ≤ rank accepted p (position_in cut p) → IsClear accepted cut p j → rank accepted p j ≤ rank accepted p k

-- one round: every process is looked at against the same cut
pub record IsRound (accepted : List Report) (cut next : List Position) : Type 0 where
  pub complete : length next ≡ length (known accepted)
  pub each : (p : ℕ) → p < length (known accepted) → IsLowered accepted cut p (position_in next p)

-- each process is at its last surviving position
pub record AreLastSurviving (accepted : List Report) (failed : List ℕ) (cut : List Position) : Type 0 where
  pub complete : length cut ≡ length (known accepted)
  pub each : (p : ℕ) → p < length (known accepted) → IsLastSurviving accepted failed p (position_in cut p)

-- the cut after so many rounds, each of which changed something
abbrev pub AfterRounds : List Report → List ℕ → ℕ → List Position → Type 0
AfterRounds accepted failed zero cut = AreLastSurviving accepted failed cut
AfterRounds accepted failed (suc t) cut = (before : List Position) × AfterRounds accepted failed t before × IsRound accepted before cut × (before ≢ cut)

-- so many rounds lead to the cut up to the first that changes nothing, that one counted
abbrev pub AreRounds : List Report → List ℕ → ℕ → List Position → Type 0
AreRounds accepted failed n cut = (t : ℕ) × (n ≡ t + 1) × AfterRounds accepted failed t cut × IsRound accepted cut cut

-- the ranks of the last surviving positions: how many surviving positions above 0 each process has
pub record AreSurvivingRanks (accepted : List Report) (failed : List ℕ) (surviving_ranks : List ℕ) : Type 0 where
  pub complete : length surviving_ranks ≡ length (known accepted)
  pub within : (p : ℕ) → p < length surviving_ranks → slice_index surviving_ranks p ≤ last_rank accepted p
  pub last : (p : ℕ) → p < length surviving_ranks → IsLastSurviving accepted failed p (position_at accepted p (slice_index surviving_ranks p))
