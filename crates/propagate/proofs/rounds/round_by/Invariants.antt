use Rattle.std.proofs.Common.{◌≡◌, ◌++◌, List}
use Rattle.chains.specs.declared.position.Place.{Place}
use Rattle.propagate.specs.working.Stages.{IsStageFrom}
use Rattle.propagate.proofs.Staging.{AreNextTo, AreHeadsTo}
use Rattle.propagate.proofs.Choosing.{AreChainsTo}
use Rattle.propagate.proofs.rounds.round_by.Given as goal

abbrev pub invariant-loop-process : goal.invariant-loop-process
invariant-loop-process l = record {
  ranks : AreNextTo l.chains.accepted l.stage.cut.items l.process l.cut.items l.fell.items;
  chain_ends : AreHeadsTo l.chains.accepted l.surviving_ranks l.stage.cut.items l.process l.cut.items l.chain_ends.items l.arena;
  stands : IsStageFrom l.chains.accepted l.surviving_ranks l.stage l.arena;
  more : (more : List (List Place)) × (l.arena ≡ l.fn.arena ++ more);
  chains : AreChainsTo l.chains.accepted l.surviving_ranks l.stage.cut.items l.stage.chain_ends.items l.fn.arena l.process l.cut.items l.chain_ends.items l.arena;
}
