-- Working definitions: how a line is kept.
use Rattle.std.specs.Prelude.{◌≡◌, ℕ, ◌+◌, if◌then◌else◌, List, [], ◌∷◌, Some, length, map, take}
use Rattle.std.specs.List.{range_with_len}
use Rattle.std.specs.Str.{bytes_eq}
use Rattle.report_line.specs.declared.report.Report.{Report}
use Rattle.chains.specs.declared.position.Place.{Place}
use Rattle.chains.specs.declared.position.Position.{Position}
use Rattle.chains.specs.Processes.{Name, known}
use Rattle.chains.specs.Elements.{name_of, elements_of}
use Rattle.chains.specs.Positions.{rank, position_in, positions_of, IsCut}
use Rattle.chains.specs.Settled.{Limits, limits_of, is_settled, settled_by, beside}
use Rattle.chains.specs.Held.{Held}

-- with this front and this epoch
abbrev pub counted_from : Held → ℕ → ℕ → Held
counted_from held front epoch = record { accepted = held.accepted; epochs = held.epochs; front = front; epoch = epoch; stopped = held.stopped }

-- the limits that stand beside these names, in order; who is not among them has none
abbrev pub limits_in : List Name → List ℕ → Limits
limits_in [] limits p = 0
limits_in (q ∷ names) [] p = 0
limits_in (q ∷ names) (n ∷ limits) p = if bytes_eq p q then n else limits_in names limits p

-- the line has each known process once, in order of birth, at 0 or a position that the process has
pub record ListsEach (accepted : List Report) (line : List Place) : Type 0 where
  pub in_order : map (λ x. x.process) line ≡ range_with_len 0 (length (known accepted))
  pub cut : IsCut accepted [] (positions_of line)

-- beside each known process stands how many of its reports are at or before the line
pub record AreLimits (accepted : List Report) (line : List Position) (limits : List ℕ) : Type 0 where
  pub complete : length limits ≡ length (known accepted)
  pub each : (p : Name) → limits_in (known accepted) limits p ≡ limits_of accepted line p

-- of the first i reports those within these limits are kept
pub record IsKeptTo (held : Held) (limits : Limits) (i : ℕ) (kept : Held) : Type 0 where
  pub accepted : kept.accepted ≡ settled_by limits (take i held.accepted)
  pub epochs : kept.epochs ≡ beside (is_settled limits) (take i held.accepted) (take i held.epochs)
  pub front : kept.front ≡ length kept.accepted + held.epoch
  pub epoch : kept.epoch ≡ held.epoch

-- the process of this number has in these reports just its elements up to the position
abbrev pub HasElementsTo : List Report → ℕ → Position → List Report → Type 0
HasElementsTo accepted i k kept = (p : Name) → name_of accepted i ≡ Some p → elements_of p kept ≡ take (rank accepted i k) (elements_of p accepted)

-- each process has just its elements up to the line
abbrev pub HaveElements : List Report → List Position → List Report → Type 0
HaveElements accepted line kept = (i : ℕ) → HasElementsTo accepted i (position_in line i) kept
