use Rattle.std.proofs.Common.{take}
use Rattle.std.specs.Prelude.{All}
use Rattle.coordinator.specs.Closing.{IsAtTurn, entries_of}
use Rattle.coordinator.proofs.auditing.first_strange.Given as goal

abbrev pub invariant-loop-place : goal.invariant-loop-place
invariant-loop-place g l = All (IsAtTurn l.turns) (entries_of (take l.place l.passes))
