use Rattle.std.proofs.Common.{ℕ, ◌+◌}
use Rattle.std.specs.Option.{option_map_or}
use Rattle.propagate.specs.working.Nodes.{IsUnwinding}
use Rattle.propagate.proofs.arena.reversed.Given as goal

abbrev pub invariant-loop-rest : goal.invariant-loop-rest
invariant-loop-rest l = IsUnwinding l.nodes l.chain l.rest l.places.items

abbrev pub decreases-loop-rest : goal.decreases-loop-rest
decreases-loop-rest l = option_map_or (λ (i : ℕ). i + 1) l.rest 0
