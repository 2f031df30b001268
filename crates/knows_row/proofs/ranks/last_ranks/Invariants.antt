use Rattle.std.proofs.Common.{◌≡◌, map}
use Rattle.std.specs.List.{range_with_len}
use Rattle.chains.specs.Positions.{last_rank}
use Rattle.knows_row.proofs.ranks.last_ranks.Given as goal

abbrev pub invariant-loop-process : goal.invariant-loop-process
invariant-loop-process l = l.ranks.items ≡ map (last_rank l.chains.accepted) (range_with_len 0 l.process)
