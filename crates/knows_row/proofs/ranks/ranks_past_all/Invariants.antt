use Rattle.std.proofs.Common.{◌≡◌, ◌+◌, ℕ, length, map}
use Rattle.std.specs.List.{range_with_len}
use Rattle.chains.specs.Elements.{elements}
use Rattle.knows_row.proofs.ranks.ranks_past_all.Given as goal

abbrev pub invariant-loop-process : goal.invariant-loop-process
invariant-loop-process l = l.ranks.items ≡ map (λ (q : ℕ). length (elements l.chains.accepted q) + 1) (range_with_len 0 l.process)
