-- The garbage line is a closed cut of the longer list.
use Rattle.law_lines.proofs.GarbageLine.{garbage_line_never_falls}
use Rattle.law_lines.proofs.law.garbage_line_never_falls.Goals as goal

pub returns : goal.returns
returns c = garbage_line_never_falls
