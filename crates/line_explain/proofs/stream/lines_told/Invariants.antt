use Rattle.std.proofs.Common.{take}
use Rattle.line_explain.proofs.Streamed.{IsTextOf}
use Rattle.line_explain.proofs.stream.lines_told.Given as goal

abbrev pub invariant-loop-i : goal.invariant-loop-i
invariant-loop-i l = IsTextOf (take l.i l.lines) l.first l.text.items l.calls
