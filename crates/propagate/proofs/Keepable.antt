-- The greatest cut of a failed set can be kept.
use Rattle.std.proofs.Common.{◌≡◌, inl, inr, ℕ, List, [], length, map}
use Rattle.std.specs.List.{range_with_len}
use Rattle.report_line.specs.declared.report.Report.{Report}
use Rattle.chains.specs.declared.position.Place.{Place}
use Rattle.chains.specs.declared.position.Position.{Position}
use Rattle.chains.specs.declared.position.Position.TheVariants.{At, Retired}
use Rattle.chains.specs.Processes.{known}
use Rattle.chains.specs.Positions.{position_in, positions_of, IsChosen, IsCut}
use Rattle.chains.specs.Folded.{IsFolded}
use Rattle.chains.specs.Greatest.{IsGreatestCut}
use Rattle.chains.specs.Settled.{CanBeKept}
use Rattle.law_lines.proofs.SettledClosing.{settled_is_folded}
use Rattle.law_lines.proofs.Elements.{settled_elements}
use Rattle.propagate.proofs.Fallen.{no_member}

-- what survives of failed processes is there where none failed
there_for_none : (accepted : List Report) (failed : List ℕ) (p : ℕ) (k : Position) → IsChosen accepted failed p k → IsChosen accepted [] p k
there_for_none accepted failed p k (inl e) = inl e
there_for_none accepted failed p (At k) (inr h) = inr (h.0, h.1, λ has. absurd (no_member p has))
there_for_none accepted failed p Retired (inr h) = inr h

pub cut_for_none : (accepted : List Report) (failed : List ℕ) (cut : List Position) → IsCut accepted failed cut → IsCut accepted [] cut
cut_for_none accepted failed cut h = record {
  complete = h.complete;
  chosen = λ p lt. there_for_none accepted failed p (position_in cut p) (h.chosen p lt);
}

pub can_be_kept : (accepted : List Report) (failed : List ℕ) (line : List Place) → IsFolded accepted → map (λ (x : Place). x.process) line ≡ range_with_len 0 (length (known accepted))
    → IsGreatestCut accepted failed (positions_of line) → CanBeKept accepted line
can_be_kept accepted failed line folded in_order h = record {
  in_order = in_order;
  cut = cut_for_none accepted failed (positions_of line) h.is_one.is_cut;
  folded = settled_is_folded accepted failed (positions_of line) folded h.is_one;
  elements = λ i p named. settled_elements accepted failed (positions_of line) i p folded h named;
}
