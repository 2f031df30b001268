use Rattle.std.proofs.Common.{◌≡◌, length}
use Rattle.report_line.specs.Names.{wrong_part}
use Rattle.report_line.proofs.readers.wrong_part.Given as goal

abbrev pub invariant-loop-part : goal.invariant-loop-part
invariant-loop-part l = wrong_part l.fn.word ≡ wrong_part l.rest

abbrev pub decreases-loop-part : goal.decreases-loop-part
decreases-loop-part l = length l.rest
