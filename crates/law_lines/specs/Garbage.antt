-- No line is below an earlier garbage line: what a settlement on a line does to a cut that survives whoever fails.
use Rattle.std.specs.Prelude.{◌≡◌, ℕ, ◌≤◌, ◌<◌, true, List, [], ◌∷◌, ◌++◌, Contains, Some, length, is_some, ⊤}
use Rattle.report_line.specs.declared.report.Report.{Report}
use Rattle.chains.specs.declared.position.Position.{Position}
use Rattle.chains.specs.declared.position.Position.TheVariants.{At, Retired}
use Rattle.chains.specs.Processes.{Name, known, IsKnown, target_of}
use Rattle.chains.specs.Elements.{name_of, stable_of}
use Rattle.chains.specs.Positions.{before_birth, position_in}
use Rattle.chains.specs.Knowledge.{Knows}
use Rattle.chains.specs.Folded.{IsFolded}
use Rattle.chains.specs.Greatest.{IsGreatestCut}
use Rattle.report_line.specs.histories.History.{History}
use Rattle.law_lines.specs.Places.{IsPremise}
use Rattle.law_lines.specs.Settled.{position_for, settled}
use Rattle.law_lines.specs.Runs.{Run, accepted as accepted_in, IsObeyed}

-- The position survives whoever fails: an element that lasts, or a retirement. (Who is not known has none, and is at 0.)
abbrev pub Lasts : List Report → Name → Position → Type 0
Lasts accepted p (At k) = k ≤ length (stable_of p accepted)
Lasts accepted p Retired = is_some (target_of p accepted) ≡ true

-- Positions by name that survive whoever fails, and of which none knows another process after its position. Those of a garbage
-- line are such.
pub record IsSafeCut (accepted : List Report) (cut : Name → Position) : Type 0 where
  pub lasts : (p : Name) → Lasts accepted p (cut p)
  pub consistent : (i j : ℕ) (p q : Name) → name_of accepted i ≡ Some p → name_of accepted j ≡ Some q
      → ¬ Knows accepted (record { process = i; position = cut p }) j (cut q)

-- a position is at or before another one
abbrev pub IsNotAfter : Position → Position → Type 0
IsNotAfter k Retired = ⊤
IsNotAfter (At j) (At k) = j ≤ k
IsNotAfter Retired (At k) = ⊥

-- No line is below a safe cut, whoever failed.
abbrev pub NoLineIsBelowSafe : Type 0
NoLineIsBelowSafe =
    (accepted : List Report) (cut : Name → Position) (failed : List ℕ) (line : List Position) (i : ℕ) (p : Name) → IsFolded accepted → IsSafeCut accepted cut
    → IsGreatestCut accepted failed line → name_of accepted i ≡ Some p
    → IsNotAfter (cut p) (position_in line i)

-- A safe cut stays one through a settlement on any line.
abbrev pub SafeCutsStay : Type 0
SafeCutsStay =
    (accepted : List Report) (cut : Name → Position) (failed : List ℕ) (line : List Position) → IsFolded accepted → IsSafeCut accepted cut
    → IsGreatestCut accepted failed line → IsSafeCut (settled accepted line) cut

-- A safe cut stays one as a report is accepted, where the longer list agrees with a lawful history.
abbrev pub SafeCutsGrow : Type 0
SafeCutsGrow =
    (root : Name) (h : History) (accepted : List Report) (r : Report) (cut : Name → Position) → IsFolded accepted → IsSafeCut accepted cut
    → IsPremise root h (accepted ++ r ∷ []) → IsSafeCut (accepted ++ r ∷ []) cut

-- No line is below an earlier garbage line, by name: whatever was made, accepted and settled between them, for every failed
-- set, the line is in each process at or after the line that was answered with every process failed.
abbrev pub NoLineIsBelowGarbage : Type 0
NoLineIsBelowGarbage =
    (root : Name) (run more : Run) (all failed : List ℕ) (garbage line : List Position) (i : ℕ) (p : Name)
    → IsObeyed root (more ++ run)
    → ((q : ℕ) → q < length (known (accepted_in run)) → Contains all q) → IsGreatestCut (accepted_in run) all garbage
    → IsGreatestCut (accepted_in (more ++ run)) failed line → name_of (accepted_in (more ++ run)) i ≡ Some p
    → IsNotAfter (position_for (known (accepted_in run)) garbage p) (position_in line i)

-- Who is not known any more was unborn in each earlier garbage line.
abbrev pub WhoIsGoneWasUnborn : Type 0
WhoIsGoneWasUnborn =
    (root : Name) (run more : Run) (all : List ℕ) (garbage : List Position) (p : Name)
    → IsObeyed root (more ++ run)
    → ((q : ℕ) → q < length (known (accepted_in run)) → Contains all q) → IsGreatestCut (accepted_in run) all garbage
    → ¬ IsKnown (accepted_in (more ++ run)) p → position_for (known (accepted_in run)) garbage p ≡ before_birth
