use Rattle.std.proofs.Common.{◌≡◌, ◌++◌, length}
use Rattle.recline.specs.Commented.{passed_on}
use Rattle.recline.specs.working.Commented.{lines_of}
use Rattle.recline.proofs.commented.without_comments.Given as goal

abbrev pub invariant-loop-line : goal.invariant-loop-line
invariant-loop-line l = l.text.items ++ passed_on (lines_of l.rest) ≡ passed_on (lines_of l.script)

abbrev pub decreases-loop-line : goal.decreases-loop-line
decreases-loop-line l = length l.rest
