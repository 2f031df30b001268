-- Working definition: where the rounds end, and the line there.
use Rattle.std.specs.Prelude.{◌≡◌, ℕ, ◌+◌, ◌≤◌, List, length, map, sum}
use Rattle.std.specs.List.{range_with_len}
use Rattle.report_line.specs.declared.report.Report.{Report}
use Rattle.chains.specs.declared.position.Place.{Place}
use Rattle.chains.specs.Processes.{known}
use Rattle.reasons.specs.Certificates.{positions_of}
use Rattle.propagate.specs.declared.cut.Reached.{Reached}
use Rattle.propagate.specs.Greatest.{IsGreatestCut}
use Rattle.propagate.specs.working.Ranks.{AreNextRanks, RanksAfter, positions_from}
use Rattle.propagate.specs.Rounds.{AreSurvivingRanks}
use Rattle.propagate.specs.working.Stages.{IsStageFrom, AreChosenBy}

-- the rounds from the last surviving ranks of these failed processes end here, and this is the line
pub record IsReached (accepted : List Report) (failed : List ℕ) (r : Reached) : Type 0 where
  pub surviving_ranks : AreSurvivingRanks accepted failed r.surviving_ranks.items
  pub stands : IsStageFrom accepted r.surviving_ranks.items r.last.stage r.last.arena
  pub rounds : (t : ℕ) × (r.last.rounds ≡ t + 1) × RanksAfter accepted r.surviving_ranks.items t r.last.stage.cut.items
      × AreChosenBy accepted r.surviving_ranks.items t r.last.stage.cut.items r.last.stage.chain_ends.items r.last.arena
  pub still : AreNextRanks accepted r.last.stage.cut.items r.last.stage.cut.items
  pub few : r.last.rounds ≤ sum r.surviving_ranks.items + 1
  pub in_order : map (λ (x : Place). x.process) r.line ≡ range_with_len 0 (length (known accepted))
  pub positions : positions_from accepted 0 r.last.stage.cut.items ≡ positions_of r.line
  pub line : IsGreatestCut accepted failed (positions_of r.line)
