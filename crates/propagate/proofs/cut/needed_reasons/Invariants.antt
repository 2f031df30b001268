use Rattle.std.proofs.Common.{◌≡◌, ◌++◌}
use Rattle.propagate.specs.working.Stages.{chains_at, needed_chains}
use Rattle.propagate.proofs.Cutting.{due_from}
use Rattle.propagate.proofs.cut.needed_reasons.Given as goal

-- the chains so far and those that are due from here on are those that are due
abbrev pub invariant-loop-i : goal.invariant-loop-i
invariant-loop-i l =
    let chains = chains_at l.arena l.stage.chain_ends.items in
    l.reasons ++ due_from l.surviving_ranks l.stage.cut.items chains l.i ≡ needed_chains l.surviving_ranks l.stage.cut.items chains
