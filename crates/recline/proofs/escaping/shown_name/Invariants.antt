use Rattle.std.proofs.Common.{length}
use Rattle.std.specs.Str.{chars}
use Rattle.recline.proofs.Escapes.{IsSoFar}
use Rattle.recline.proofs.escaping.shown_name.Given as goal

abbrev pub invariant-loop-c : goal.invariant-loop-c
invariant-loop-c l = IsSoFar l.text.items (length l.yielded) (chars l.name)
