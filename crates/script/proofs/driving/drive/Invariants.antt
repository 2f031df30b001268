use Rattle.std.proofs.Common.{length}
use Rattle.script.specs.working.Driving.{AreTaken}
use Rattle.script.proofs.driving.drive.Given as goal

abbrev pub invariant-loop-line : goal.invariant-loop-line
invariant-loop-line l = AreTaken l.script l.rest l.printout l.world l.taken

abbrev pub decreases-loop-line : goal.decreases-loop-line
decreases-loop-line l = length l.rest
