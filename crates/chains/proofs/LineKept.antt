-- Which lines can be kept.
use Rattle.std.proofs.Common.{◌≡◌, ℕ, List, length, sym, ap, subst, ◌∙◌, arith}
use Rattle.std.proofs.lemmas.List.{take_all}
use Rattle.report_line.specs.declared.report.Report.{Report}
use Rattle.chains.specs.declared.position.Place.{Place}
use Rattle.chains.specs.Processes.{known}
use Rattle.chains.specs.Positions.{positions_of}
use Rattle.chains.specs.Held.{Held}
use Rattle.chains.specs.Folded.{IsFolded}
use Rattle.chains.specs.Settled.{Limits, limits_of, settled_by, settled, CanBeKept}
use Rattle.chains.specs.working.Settling.{limits_in, ListsEach, AreLimits, IsKeptTo, HaveElements}
use Rattle.chains.proofs.LineReports.{same_limits}

-- what is within the limits of a line is what it settles
pub settled_is : (accepted : List Report) (line : List Place) (limits : List ℕ) → AreLimits accepted (positions_of line) limits → settled_by (limits_in (known accepted) limits) accepted ≡ settled accepted (positions_of line)
settled_is accepted line limits h = ap (λ (f : Limits). settled_by f accepted) (same_limits (limits_in (known accepted) limits) (limits_of accepted (positions_of line)) h.each)

pub listed_first : (accepted : List Report) (line : List Place) → CanBeKept accepted line → ListsEach accepted line
listed_first accepted line h = record { in_order = h.in_order; cut = h.cut }

pub cannot_fold : (accepted : List Report) (line : List Place) (limits : List ℕ) → AreLimits accepted (positions_of line) limits → ¬ IsFolded (settled_by (limits_in (known accepted) limits) accepted) → ¬ CanBeKept accepted line
cannot_fold accepted line limits are unfolded h = unfolded (subst IsFolded (sym (settled_is accepted line limits are)) h.folded)

pub cannot_have : (accepted kept : List Report) (line : List Place) → kept ≡ settled accepted (positions_of line) → ¬ HaveElements accepted (positions_of line) kept → ¬ CanBeKept accepted line
cannot_have accepted kept line same without h = without (subst (HaveElements accepted (positions_of line)) (sym same) h.elements)

pub can_be_kept : (accepted kept : List Report) (line : List Place) → ListsEach accepted line → kept ≡ settled accepted (positions_of line) → IsFolded kept → HaveElements accepted (positions_of line) kept → CanBeKept accepted line
can_be_kept accepted kept line lists same folded have = record {
  in_order = lists.in_order;
  cut = lists.cut;
  folded = subst IsFolded same folded;
  elements = subst (HaveElements accepted (positions_of line)) same have;
}

-- what was kept of all reports is what the line settles
pub kept_is : (held : Held) (limits : List ℕ) (kept : Held) (line : List Place) → AreLimits held.accepted (positions_of line) limits → IsKeptTo held (limits_in (known held.accepted) limits) (length held.accepted) kept
    → kept.accepted ≡ settled held.accepted (positions_of line)
kept_is held limits kept line are h =
    h.accepted ∙ ap (settled_by (limits_in (known held.accepted) limits)) (take_all (length held.accepted) held.accepted (omega arith)) ∙ settled_is held.accepted line limits are
