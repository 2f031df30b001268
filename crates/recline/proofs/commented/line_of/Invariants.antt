use Rattle.std.proofs.Common.{length}
use Rattle.recline.proofs.StepLines.{AreCounted}
use Rattle.recline.proofs.commented.line_of.Given as goal

abbrev pub invariant-loop-line : goal.invariant-loop-line
invariant-loop-line l = AreCounted l.script l.rest l.step l.number l.left

abbrev pub decreases-loop-line : goal.decreases-loop-line
decreases-loop-line l = length l.rest
