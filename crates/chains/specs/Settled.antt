-- What a line keeps of what is held.
use Rattle.std.specs.Prelude.{◌≡◌, ℕ, zero, suc, Bool, true, nat_le, if◌then◌else◌, List, [], ◌∷◌, Some, filter, length, map, take, slice_get}
use Rattle.std.specs.List.{range_with_len}
use Rattle.std.specs.Option.{option_map_or}
use Rattle.std.specs.Str.{bytes_eq}
use Rattle.report_line.specs.declared.report.Report.{Report}
use Rattle.report_line.specs.declared.report.Report.TheVariants.{Begin, Numbered}
use Rattle.chains.specs.declared.position.Place.{Place}
use Rattle.chains.specs.declared.position.Position.{Position}
use Rattle.chains.specs.declared.position.Position.TheVariants.{At, Retired}
use Rattle.chains.specs.Processes.{Name, known, reports_of}
use Rattle.chains.specs.Elements.{name_of, elements_of, makers_of}
use Rattle.chains.specs.Positions.{before_birth, rank, position_in, positions_of, IsCut}
use Rattle.chains.specs.Failures.{IsFailedSet}
use Rattle.chains.specs.Folded.{IsFolded, IsReached}
use Rattle.chains.specs.Greatest.{IsGreatestCut}
use Rattle.chains.specs.Held.{Held, with_settlement}

-- the position of a process in a cut that lists one for each of these names; who is not among them is unborn
abbrev pub position_for : List Name → List Position → Name → Position
position_for [] cut p = before_birth
position_for (q ∷ names) [] p = before_birth
position_for (q ∷ names) (k ∷ cut) p = if bytes_eq p q then k else position_for names cut p

-- the number of a report of p; a report by which p is born has none, and counts as 0
abbrev pub number_for : Name → Report → ℕ
number_for p (Begin q) = 0
number_for p (Numbered r) = if bytes_eq p r.process then r.number else 0

-- How many of its reports are at or before the position of a process: none where it is unborn, those up to the report that
-- made the element where it is at one (none for its birth), and all where it is retired.
abbrev pub limit : List Report → Name → Position → ℕ
limit accepted p (At zero) = 0
limit accepted p (At (suc k)) = option_map_or (number_for p) (slice_get (makers_of p accepted) k) 0
limit accepted p Retired = reports_of p accepted

-- how many reports of each process are at or before the line
abbrev pub Limits : Type 0
Limits = Name → ℕ

abbrev pub limits_of : List Report → List Position → Limits
limits_of accepted line p = limit accepted p (position_for (known accepted) line p)

-- BEGIN is kept, and each report that is at or before the line in its process
abbrev pub is_settled : Limits → Report → Bool
is_settled limits (Begin p) = true
is_settled limits (Numbered r) = nat_le r.number (limits r.process)

abbrev pub settled_by : Limits → List Report → List Report
settled_by limits accepted = filter (is_settled limits) accepted

-- The settled list for a line: BEGIN and the reports at or before the line in their process, in order.
abbrev pub settled : List Report → List Position → List Report
settled accepted line = settled_by (limits_of accepted line) accepted

-- what stands beside the reports that pass
abbrev pub beside : {X : Type 0} → (Report → Bool) → List Report → List X → List X
beside test [] ys = []
beside test (r ∷ rs) [] = []
beside test (r ∷ rs) (y ∷ ys) = if test r then y ∷ beside test rs ys else beside test rs ys

-- what is held of a line: the settled list, whose reports keep their epochs
abbrev pub kept_at : Held → List Position → Held
kept_at held line = record {
  accepted = settled held.accepted line;
  epochs = beside (is_settled (limits_of held.accepted line)) held.accepted held.epochs;
  front = held.front;
  epoch = held.epoch;
  stopped = held.stopped;
}

-- The line can be kept: it has each known process once, in order of birth, at 0 or a position that the process has; and what is at or
-- before it is folded, with just the elements up to it.
pub record CanBeKept (accepted : List Report) (line : List Place) : Type 0 where
  pub in_order : map (λ x. x.process) line ≡ range_with_len 0 (length (known accepted))
  pub cut : IsCut accepted [] (positions_of line)
  pub folded : IsFolded (settled accepted (positions_of line))
  pub elements : (i : ℕ) (p : Name) → name_of accepted i ≡ Some p
      → elements_of p (settled accepted (positions_of line)) ≡ take (rank accepted i (position_in (positions_of line) i)) (elements_of p accepted)

-- What is held once all returned to the line of these failed processes: what the line keeps, one more line and one more settlement.
-- It is folded again.
pub record IsSettledFor (held : Held) (failed : List ℕ) (after : Held) : Type 0 where
  pub line : List Position
  pub greatest : IsGreatestCut held.accepted failed line
  pub is_kept : after ≡ with_settlement (kept_at held line)
  pub reached : IsReached after

-- the same of the processes with these names
abbrev pub IsSettled : Held → List Name → Held → Type 0
IsSettled held names after = (failed : List ℕ) × IsFailedSet held.accepted names failed × IsSettledFor held failed after
