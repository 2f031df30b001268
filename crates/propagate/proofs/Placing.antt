-- Ranks that are listed process by process.
use Rattle.std.proofs.Common.{◌≡◌, ℕ, ◌+◌, ◌≤◌, ◌<◌, List, [], ◌++◌, length, drop, Option, Some, None, subst, arith, length-append}
use Rattle.std.specs.Prelude.{slice_index, All}
use Rattle.std.specs.Option.{option_map_or}
use Rattle.report_line.specs.declared.report.Report.{Report}
use Rattle.chains.specs.declared.position.Place.{Place}
use Rattle.chains.specs.declared.position.Position.{Position}
use Rattle.chains.specs.declared.position.Position.TheVariants.{At}
use Rattle.chains.specs.Processes.{Name, last_report}
use Rattle.chains.specs.Elements.{name_of, elements, elements_of, stable_of, stable_made, present_in}
use Rattle.chains.specs.Positions.{position_at, last_rank, IsLastSurviving}
use Rattle.chains.specs.Admission.{report_limit}
use Rattle.chains.proofs.Counting.{made_within, one_present}
use Rattle.propagate.specs.working.Ranks.{places_from}

few_named : (accepted : List Report) (name : Option Name) → length (option_map_or (λ (p : Name). elements_of p accepted) name []) ≤ length accepted + 1
few_named accepted None = omega arith
few_named accepted (Some p) =
    omega (arith, length-append (stable_of p accepted) (present_in (last_report p accepted)), made_within (stable_made p) accepted, one_present (last_report p accepted))

-- an element's number is at most one more than all reports
pub few_elements : (accepted : List Report) (p : ℕ) → length (elements accepted p) ≤ length accepted + 1
few_elements accepted p = few_named accepted (name_of accepted p)

pub few_ranks : (accepted : List Report) (failed : List ℕ) (p k : ℕ) (last : Position) → length accepted ≤ report_limit → IsLastSurviving accepted failed p last → last ≡ At k → k ≤ report_limit + 2
few_ranks accepted failed p k last few h e =
    let at : IsLastSurviving accepted failed p (At k) = subst (IsLastSurviving accepted failed p) e h in
    omega (arith, few, at.surviving.1, few_elements accepted p)

-- it holds of each number with what stands there
abbrev pub AreEach : (ℕ → ℕ → Type 0) → List ℕ → Type 0
AreEach P xs = (p : ℕ) → p < length xs → P p (slice_index xs p)

-- the last surviving ranks of the first processes
pub record AreTopsTo (accepted : List Report) (failed : List ℕ) (n : ℕ) (surviving_ranks : List ℕ) : Type 0 where
  pub complete : length surviving_ranks ≡ n
  pub within : AreEach (λ p r. r ≤ last_rank accepted p) surviving_ranks
  pub last : AreEach (λ p r. IsLastSurviving accepted failed p (position_at accepted p r)) surviving_ranks
  pub few : All (λ r. r ≤ report_limit + 2) surviving_ranks

-- the places of the first processes, and those of the others
abbrev pub ArePlacesTo : List Report → List ℕ → ℕ → List Place → Type 0
ArePlacesTo accepted ranks n places = places ++ places_from accepted n (drop n ranks) ≡ places_from accepted 0 ranks
