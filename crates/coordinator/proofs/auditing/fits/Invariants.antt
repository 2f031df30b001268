use Rattle.std.proofs.Common.{take}
use Rattle.std.specs.Prelude.{All}
use Rattle.coordinator.specs.Closing.{IsAtTurn}
use Rattle.coordinator.proofs.auditing.fits.Given as goal

abbrev pub invariant-loop-k : goal.invariant-loop-k
invariant-loop-k g l = All (IsAtTurn l.turns) (take l.k l.entries)
