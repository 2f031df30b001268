use Rattle.std.proofs.Common.{◌≡◌, sum}
use Rattle.std.specs.Prelude.{IfSome}
use Rattle.knows_row.specs.Looks.{last_ranks, all_known}
use Rattle.knows_row.specs.Needs.{IsTableOf}
use Rattle.propagate.specs.working.Stages.{AreRunning}
use Rattle.propagate.proofs.cut.last_stage.Given as goal

abbrev pub invariant-loop-stage : goal.invariant-loop-stage
invariant-loop-stage l = AreRunning l.chains.accepted l.surviving_ranks l.stage l.arena l.rounds
    × IfSome l.table (λ n. IsTableOf l.chains.accepted n.now × (l.stage.cut.items ≡ last_ranks l.chains.accepted) × (l.stage.fell.items ≡ all_known l.chains.accepted))

abbrev pub decreases-loop-stage : goal.decreases-loop-stage
decreases-loop-stage l = sum l.stage.cut.items
