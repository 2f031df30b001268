-- What holds of the places of accepted reports.
use Rattle.std.proofs.Common.{List}
use Rattle.report_line.specs.declared.report.Report.{Report}
use Rattle.chains.specs.Folded.{IsFolded}
use Rattle.knows_row.specs.Knowing.{AreLawfulPlaces}
use Rattle.knows_row.proofs.Laws.{later_at, rank_from_at, at_from_rank, later, earlier, unborn, own, ended}

pub lawful : (accepted : List Report) → IsFolded accepted → AreLawfulPlaces accepted
lawful accepted folded = record {
  unborn = unborn accepted;
  own = own accepted;
  ended = ended accepted;
  earlier = earlier accepted;
  later = λ p x y q k. later accepted p x y q k folded;
  later_at = λ p x y q k. later_at accepted p x y q k folded;
  from_element = rank_from_at accepted;
  by_element = at_from_rank accepted;
}
