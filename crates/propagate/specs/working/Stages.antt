-- Working definitions: where the rounds stand.
use Rattle.std.specs.Prelude.{◌≡◌, ◌⊎◌, ℕ, ◌+◌, ◌<◌, ◌≤◌, List, [], ◌∷◌, ◌++◌, length, map, sum, All, slice_index, get_or, Some, nat_lt, if◌then◌else◌}
use Rattle.std.specs.List.Sorted.{IsStrictlyIncreasing}
use Rattle.report_line.specs.declared.report.Report.{Report}
use Rattle.chains.specs.declared.position.Place.{Place}
use Rattle.chains.specs.Processes.{known}
use Rattle.chains.specs.Positions.{last_rank, place_at}
use Rattle.propagate.specs.declared.rounds.Stage.{Stage}
use Rattle.propagate.specs.working.Ranks.{AreGrounded, AreNextRanks, AreFallen, RanksAfter, IsClearBut, IsCauseOf, positions_from}
use Rattle.knows_row.specs.Looks.{IsLoweredFrom}
use Rattle.propagate.specs.Rounds.{AreSurvivingRanks}
use Rattle.propagate.specs.Choice.{ChainsAfter}

-- the chains of these numbers
abbrev pub chains_at : List (List Place) → List ℕ → List (List Place)
chains_at arena chain_ends = map (λ h. get_or arena h []) chain_ends

-- a cut after some rounds, with the processes that fell in the last one
pub record IsStanding (accepted : List Report) (surviving_ranks cut chain_ends fell : List ℕ) : Type 0 where
  pub complete : length cut ≡ length (known accepted)
  pub each : length surviving_ranks ≡ length cut
  pub within : (p : ℕ) → p < length cut → slice_index surviving_ranks p ≤ last_rank accepted p
  pub surviving : (p : ℕ) → p < length cut → slice_index cut p ≤ slice_index surviving_ranks p
  pub headed : length chain_ends ≡ length cut
  pub in_order : IsStrictlyIncreasing fell
  pub fallen : All (λ q. q < length cut) fell
  pub clear : IsClearBut accepted fell cut

-- for each failed set that has these last surviving ranks, the chains are grounded
abbrev pub AreGroundedBy : List Report → List ℕ → List ℕ → List ℕ → List (List Place) → Type 0
AreGroundedBy accepted surviving_ranks cut chain_ends arena = (failed : List ℕ) → AreSurvivingRanks accepted failed surviving_ranks → AreGrounded accepted failed surviving_ranks cut (chains_at arena chain_ends)

-- the chain of each process below its last surviving rank is there
abbrev pub AreThere : List ℕ → List ℕ → List ℕ → List (List Place) → Type 0
AreThere surviving_ranks cut chain_ends arena = (p : ℕ) → p < length cut → slice_index cut p < slice_index surviving_ranks p → slice_index chain_ends p < length arena

-- a stage of the rounds from these last surviving ranks, with its chains
pub record IsStageFrom (accepted : List Report) (surviving_ranks : List ℕ) (stage : Stage) (arena : List (List Place)) : Type 0 where
  pub standing : IsStanding accepted surviving_ranks stage.cut.items stage.chain_ends.items stage.fell.items
  pub grounded : AreGroundedBy accepted surviving_ranks stage.cut.items stage.chain_ends.items arena
  pub there : AreThere surviving_ranks stage.cut.items stage.chain_ends.items arena

-- the chains of just those processes that are below their last surviving ranks, in order
abbrev pub needed_chains : List ℕ → List ℕ → List (List Place) → List (List Place)
needed_chains [] cut chains = []
needed_chains (top ∷ surviving_ranks) [] chains = []
needed_chains (top ∷ surviving_ranks) (r ∷ rs) [] = []
needed_chains (top ∷ surviving_ranks) (r ∷ rs) (chain ∷ chains) = if nat_lt r top then chain ∷ needed_chains surviving_ranks rs chains else needed_chains surviving_ranks rs chains

-- the chain of each process below its last surviving rank, and none of the others
abbrev pub shown : List ℕ → List ℕ → List (List Place) → List (List Place)
shown [] cut chains = []
shown (top ∷ surviving_ranks) [] chains = []
shown (top ∷ surviving_ranks) (r ∷ rs) [] = []
shown (top ∷ surviving_ranks) (r ∷ rs) (chain ∷ chains) = (if nat_lt r top then chain else []) ∷ shown surviving_ranks rs chains

-- the chain goes on from q to the place of p above rank r
abbrev pub GoesOnAt : List Report → List ℕ → List ℕ → List ℕ → List (List Place) → ℕ → ℕ → ℕ → List Place → Type 0
GoesOnAt accepted surviving_ranks cut chain_ends arena p r q chain =
    ((slice_index cut q ≡ slice_index surviving_ranks q) × (chain ≡ place_at accepted q (slice_index cut q) ∷ place_at accepted p (r + 1) ∷ []))
    ⊎ ((slice_index cut q < slice_index surviving_ranks q) × (chain ≡ get_or arena (slice_index chain_ends q) [] ++ place_at accepted p (r + 1) ∷ []))

-- the chain of a process that a round leaves at rank r: its own where it stays, else from its cause to the place above
abbrev pub IsChainAt : List Report → List ℕ → List ℕ → List ℕ → List (List Place) → ℕ → ℕ → List Place → Type 0
IsChainAt accepted surviving_ranks cut chain_ends arena p r chain =
    ((r ≡ slice_index cut p) × (r < slice_index surviving_ranks p → chain ≡ get_or arena (slice_index chain_ends p) []))
    ⊎ ((q : ℕ) × IsCauseOf accepted cut p r (Some q) × GoesOnAt accepted surviving_ranks cut chain_ends arena p r q chain)

-- such chains of all processes, after a round
abbrev pub AreChainsAt : List Report → List ℕ → List ℕ → List ℕ → List (List Place) → List ℕ → List ℕ → List (List Place) → Type 0
AreChainsAt accepted surviving_ranks cut chain_ends arena next after later =
    (p : ℕ) → p < length next → IsChainAt accepted surviving_ranks cut chain_ends arena p (slice_index next p) (get_or later (slice_index after p) [])

-- for each failed set that has these last surviving ranks, the chains are those that the rounds choose
abbrev pub AreChosenBy : List Report → List ℕ → ℕ → List ℕ → List ℕ → List (List Place) → Type 0
AreChosenBy accepted surviving_ranks t cut chain_ends arena =
    (failed : List ℕ) → AreSurvivingRanks accepted failed surviving_ranks → ChainsAfter accepted failed t (positions_from accepted 0 cut) (shown surviving_ranks cut (chains_at arena chain_ends))

-- one round leads from the stage to the next one
pub record IsNextStage (accepted : List Report) (surviving_ranks : List ℕ) (stage : Stage) (arena : List (List Place)) (next : Stage) (later : List (List Place)) : Type 0 where
  pub ranks : AreNextRanks accepted stage.cut.items next.cut.items
  pub fallen : AreFallen stage.cut.items next.cut.items next.fell.items
  pub stands : IsStageFrom accepted surviving_ranks next later
  pub from : IsLoweredFrom accepted next.before.items next.cut.items
  pub chains : AreChainsAt accepted surviving_ranks stage.cut.items stage.chain_ends.items arena next.cut.items next.chain_ends.items later

-- where the rounds stand, with the number of the round to come
pub record AreRunning (accepted : List Report) (surviving_ranks : List ℕ) (stage : Stage) (arena : List (List Place)) (number : ℕ) : Type 0 where
  pub stands : IsStageFrom accepted surviving_ranks stage arena
  pub from : IsLoweredFrom accepted stage.before.items stage.cut.items
  pub rounds : (t : ℕ) × (number ≡ t + 1) × RanksAfter accepted surviving_ranks t stage.cut.items × AreChosenBy accepted surviving_ranks t stage.cut.items stage.chain_ends.items arena
  pub few : number + sum stage.cut.items ≤ sum surviving_ranks + 1
