use Rattle.std.specs.Prelude.{take}
use Rattle.chains.specs.working.Flags.{AreFlagged}
use Rattle.chains.proofs.failed.flags_below.Given as goal

abbrev pub invariant-loop-i : goal.invariant-loop-i
invariant-loop-i l = AreFlagged (take l.i l.numbers) l.count l.flags.items
