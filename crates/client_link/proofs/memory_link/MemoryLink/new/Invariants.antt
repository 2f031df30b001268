use Rattle.std.proofs.Common.{◌≡◌, take}
use Rattle.std.specs.List.{flat_map}
use Rattle.client_link.proofs.memory_link.MemoryLink.new.Given as goal

abbrev pub invariant-loop-piece : goal.invariant-loop-piece
invariant-loop-piece l = l.input.items ≡ flat_map (λ p. p.now) (take l.piece-index l.pieces)
