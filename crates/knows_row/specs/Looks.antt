-- What a place knows of many processes at once, of each after its rank in a cut. A cut lists a rank of each process: 0 for unborn,
-- an element's number, and for retired the number after the last element.
use Rattle.std.specs.Prelude.{◌≡◌, ℕ, ◌+◌, ◌≤◌, ◌<◌, List, length, map, All, Contains, Option, MatchOption, slice_index}
use Rattle.std.specs.List.{range_with_len}
use Rattle.std.specs.List.Sorted.{IsStrictlyIncreasing}
use Rattle.event_tree.specs.EventTree.{EventTree}
use Rattle.report_line.specs.declared.report.Report.{Report}
use Rattle.chains.specs.Processes.{known}
use Rattle.chains.specs.Elements.{elements}
use Rattle.chains.specs.Positions.{last_rank}
use Rattle.knows_row.specs.Knowing.{KnowsRank}
use Rattle.knows_row.specs.Thresholds.{AreThresholdsOf}

-- rank x of p knows one of these processes after its rank in the cut
abbrev pub KnowsOne : List Report → List ℕ → List ℕ → ℕ → ℕ → Type 0
KnowsOne accepted fell cut p x = (q : ℕ) × Contains fell q × KnowsRank accepted p x q (slice_index cut q)

-- of these processes q is the first, in order of birth, that rank x of p knows after its rank in the cut
pub record IsFirstKnown (accepted : List Report) (among cut : List ℕ) (p x q : ℕ) : Type 0 where
  pub one : Contains among q
  pub known : KnowsRank accepted p x q (slice_index cut q)
  pub first : (j : ℕ) → Contains among j → KnowsRank accepted p x j (slice_index cut j) → q ≤ j

-- this is the first of them, or none is known so
abbrev pub IsFirstOf : List Report → List ℕ → List ℕ → ℕ → ℕ → Option ℕ → Type 0
IsFirstOf accepted among cut p x found =
    MatchOption found ((q : ℕ) → Contains among q → ¬ KnowsRank accepted p x q (slice_index cut q))
    (λ q. (q < length cut) × IsFirstKnown accepted among cut p x q)

-- A cut that a round may have made of the one before: no rank is greater, and no place of it knows a process after that one's
-- rank in the cut before.
pub record IsLoweredFrom (accepted : List Report) (before cut : List ℕ) : Type 0 where
  pub complete : length before ≡ length cut
  pub falls : (q : ℕ) → q < length cut → slice_index cut q ≤ slice_index before q
  pub unknown : (p q : ℕ) → p < length cut → q < length cut → ¬ KnowsRank accepted p (slice_index cut p) q (slice_index before q)

-- Thresholds that tell of each place at or before its process's rank in the cut which of these processes it knows after theirs:
-- those of their elements from the cut on and below a cut of which it may have been made.
pub record AreBoundsOf (accepted : List Report) (cut fell : List ℕ) (rows : List (List EventTree)) : Type 0 where
  pub within : (p : ℕ) → p < length cut → slice_index cut p ≤ last_rank accepted p
  pub in_order : IsStrictlyIncreasing fell
  pub fallen : All (λ q. q < length cut) fell
  pub before : List ℕ
  pub lowered : IsLoweredFrom accepted before cut
  pub thresholds : AreThresholdsOf accepted cut before fell rows

-- ---- all processes at their last places

-- all processes, in order of birth
abbrev pub all_known : List Report → List ℕ
all_known accepted = range_with_len 0 (length (known accepted))

-- the last rank of each process
abbrev pub last_ranks : List Report → List ℕ
last_ranks accepted = map (last_rank accepted) (all_known accepted)

-- for each process the rank behind its last element
abbrev pub ranks_past_all : List Report → List ℕ
ranks_past_all accepted = map (λ q. length (elements accepted q) + 1) (all_known accepted)
