-- Working definitions: cuts and rounds by ranks, and what is kept of reason chains while the rounds run. A cut lists a rank
-- of each process: 0 for unborn, an element's number, and for retired the number after the last element.
use Rattle.std.specs.Prelude.{◌≡◌, ◌≢◌, ℕ, zero, suc, ◌+◌, ◌≤◌, ◌<◌, List, [], ◌∷◌, ◌++◌, length, drop, All, Contains, slice_index, get_or, Option, Some, None, ◌↔◌}
use Rattle.std.specs.List.Sorted.{IsStrictlyIncreasing}
use Rattle.report_line.specs.declared.report.Report.{Report}
use Rattle.chains.specs.declared.position.Place.{Place}
use Rattle.chains.specs.declared.position.Position.{Position}
use Rattle.chains.specs.Positions.{rank, position_at, place_at}
use Rattle.knows_row.specs.Knowing.{KnowsRank}
use Rattle.reasons.specs.Certificates.{IsReasonChain}

-- the positions and the places of a cut, for the processes from the i-th on
abbrev pub positions_from : List Report → ℕ → List ℕ → List Position
positions_from accepted i [] = []
positions_from accepted i (r ∷ rs) = position_at accepted i r ∷ positions_from accepted (suc i) rs

abbrev pub places_from : List Report → ℕ → List ℕ → List Place
places_from accepted i [] = []
places_from accepted i (r ∷ rs) = place_at accepted i r ∷ places_from accepted (suc i) rs

-- rank x of p knows no process after its rank in the cut
abbrev pub IsClearRank : List Report → List ℕ → ℕ → ℕ → Type 0
IsClearRank accepted cut p x = (q : ℕ) → q < length cut → ¬ KnowsRank accepted p x q (slice_index cut q)

-- the greatest rank of p at or below the cut's that is clear
pub record IsNextRank (accepted : List Report) (cut : List ℕ) (p r : ℕ) : Type 0 where
  pub before : r ≤ slice_index cut p
  pub clear : IsClearRank accepted cut p r
  pub greatest : (j : ℕ) → r < j → j ≤ slice_index cut p → ¬ IsClearRank accepted cut p j

pub record AreNextRanks (accepted : List Report) (cut next : List ℕ) : Type 0 where
  pub complete : length next ≡ length cut
  pub each : (p : ℕ) → p < length cut → IsNextRank accepted cut p (slice_index next p)

-- the cut after so many rounds from the first one, each of which changed something
abbrev pub RanksAfter : List Report → List ℕ → ℕ → List ℕ → Type 0
RanksAfter accepted surviving_ranks zero cut = cut ≡ surviving_ranks
RanksAfter accepted surviving_ranks (suc t) cut = (before : List ℕ) × RanksAfter accepted surviving_ranks t before × AreNextRanks accepted before cut × (before ≢ cut)

-- a reason chain that ends at the place, all of whose places but the first entry are past the cut
pub record IsGrounded (accepted : List Report) (failed cut : List ℕ) (last : Place) (chain : List Place) : Type 0 where
  pub reason : IsReasonChain accepted failed chain
  pub front : List Place
  pub ends : chain ≡ front ++ last ∷ []
  pub past : All (λ x. slice_index cut x.process < rank accepted x.process x.position) (drop 1 chain)

-- each process below its last surviving rank has such a chain, at its own number, that ends at its next position
abbrev pub AreGrounded : List Report → List ℕ → List ℕ → List ℕ → List (List Place) → Type 0
AreGrounded accepted failed surviving_ranks cut chains =
    (p : ℕ) → p < length cut → slice_index cut p < slice_index surviving_ranks p
    → IsGrounded accepted failed cut (place_at accepted p (slice_index cut p + 1)) (get_or chains p [])

-- a cut after some rounds, with its chains
pub record IsStage (accepted : List Report) (failed surviving_ranks cut : List ℕ) (chains : List (List Place)) : Type 0 where
  pub complete : length cut ≡ length surviving_ranks
  pub surviving : (p : ℕ) → p < length cut → slice_index cut p ≤ slice_index surviving_ranks p
  pub kept : length chains ≡ length cut
  pub grounded : AreGrounded accepted failed surviving_ranks cut chains

-- But for the processes that fell in the last round, which these are, each process is known by no place of the cut after
-- its own position.
abbrev pub IsClearBut : List Report → List ℕ → List ℕ → Type 0
IsClearBut accepted fell cut =
    (p q : ℕ) → p < length cut → q < length cut → ¬ Contains fell q → ¬ KnowsRank accepted p (slice_index cut p) q (slice_index cut q)

-- A round that brings p to this rank: none, where it stays; or the first process that the position above knows after its
-- rank in the cut.
abbrev pub IsCauseOf : List Report → List ℕ → ℕ → ℕ → Option ℕ → Type 0
IsCauseOf accepted cut p r None = r ≡ slice_index cut p
IsCauseOf accepted cut p r (Some q) =
    (r < slice_index cut p) × (q < length cut) × KnowsRank accepted p (r + 1) q (slice_index cut q)
    × ((j : ℕ) → j < length cut → KnowsRank accepted p (r + 1) j (slice_index cut j) → q ≤ j)

-- the processes that fell from one cut to the next, in order of birth
pub record AreFallen (cut next fell : List ℕ) : Type 0 where
  pub in_order : IsStrictlyIncreasing fell
  pub just_these : (q : ℕ) → (Contains fell q ↔ ((q < length cut) × (slice_index next q < slice_index cut q)))
