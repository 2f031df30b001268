-- Sets of failed processes.
use Rattle.std.specs.Prelude.{◌≡◌, ◌<◌, ◌++◌, ◌∷◌, ℕ, Bool, false, IsTrue, slice_index_or, List, All, Contains, ◌↔◌, Some, Result, Ok, Err, length}
use Rattle.std.specs.List.Sorted.{IsStrictlyIncreasing}
use Rattle.report_line.specs.declared.report.Report.{Report}
use Rattle.chains.specs.Processes.{Name, known, IsKnown}
use Rattle.chains.specs.Elements.{name_of}
use Rattle.chains.specs.declared.failed.FailedFault.{FailedFault}
use Rattle.chains.specs.declared.failed.FailedFault.TheVariants.{Unknown, Memory}

-- the numbers of just the named processes, all of which are known
pub record IsFailedSet (accepted : List Report) (names : List Name) (failed : List ℕ) : Type 0 where
  pub all_known : All (IsKnown accepted) names
  pub in_order : IsStrictlyIncreasing failed
  pub within : (p : ℕ) → Contains failed p → p < length (known accepted)
  pub just_named : (p : ℕ) (name : Name) → name_of accepted p ≡ Some name → (Contains failed p ↔ Contains names name)

-- the first of the names that is not known
pub record IsFirstUnknown (accepted : List Report) (names : List Name) (name : Name) : Type 0 where
  pub front : List Name
  pub rest : List Name
  pub parts : names ≡ front ++ name ∷ rest
  pub known_front : All (IsKnown accepted) front
  pub unknown : ¬ IsKnown accepted name

-- what becomes of the names: their set, the first unknown one, or for want of memory neither
abbrev pub FailsAs : Result (List ℕ) FailedFault → List Report → List Name → Type 0
FailsAs (Ok failed) accepted names = IsFailedSet accepted names failed
FailsAs (Err (Unknown name)) accepted names = IsFirstUnknown accepted names name
FailsAs (Err Memory) accepted names = All (IsKnown accepted) names

-- a flag for each known process, set for just those that are named
pub record AreMarked (accepted : List Report) (names : List Name) (flags : List Bool) : Type 0 where
  pub complete : length flags ≡ length (known accepted)
  pub named : (p : ℕ) (name : Name) → name_of accepted p ≡ Some name → (IsTrue (slice_index_or flags p false) ↔ Contains names name)
