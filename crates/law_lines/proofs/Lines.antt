-- The greatest stamp-consistent cut is the greatest closed cut.
use Rattle.std.proofs.Common.{ℕ, List}
use Rattle.report_line.specs.declared.report.Report.{Report}
use Rattle.chains.specs.declared.position.Position.{Position}
use Rattle.chains.specs.Folded.{IsFolded}
use Rattle.chains.specs.Greatest.{IsConsistentCut, IsGreatestCut}
use Rattle.report_line.specs.histories.History.{Name, History}
use Rattle.law_lines.specs.Places.{IsPremise, IsClosedCut}
use Rattle.law_lines.specs.Headline.{IsGreatestClosedCut, IsLineOfHistories}
use Rattle.law_lines.proofs.Closing.{closed_is_consistent}

closed_one : (root : Name) (h : History) (accepted : List Report) → IsPremise root h accepted → (failed : List ℕ) (cut : List Position) → IsConsistentCut accepted failed cut → IsClosedCut root h accepted failed cut
closed_one root h accepted premise failed cut w = record { is_cut = w.is_cut; closed = (closed_is_consistent root h accepted premise failed cut w.is_cut).1 w.consistent }

consistent_one : (root : Name) (h : History) (accepted : List Report) → IsPremise root h accepted → (failed : List ℕ) (cut : List Position) → IsClosedCut root h accepted failed cut → IsConsistentCut accepted failed cut
consistent_one root h accepted premise failed cut w = record { is_cut = w.is_cut; consistent = (closed_is_consistent root h accepted premise failed cut w.is_cut).0 w.closed }

pub greatest_is_greatest_closed : (root : Name) (h : History) (accepted : List Report) → IsPremise root h accepted → (failed : List ℕ) (cut : List Position) → IsGreatestCut accepted failed cut
    → IsGreatestClosedCut root h accepted failed cut
greatest_is_greatest_closed root h accepted premise failed cut w = record {
  is_one = closed_one root h accepted premise failed cut w.is_one;
  greatest = λ d closed. w.greatest d (consistent_one root h accepted premise failed d closed);
}

pub line_of_histories : (accepted : List Report) (failed : List ℕ) (cut : List Position) → IsFolded accepted → IsGreatestCut accepted failed cut → IsLineOfHistories accepted failed cut
line_of_histories accepted failed cut folded w = λ root h lawful agrees. greatest_is_greatest_closed root h accepted (record { folded = folded; lawful = lawful; agrees = agrees }) failed cut w
