use Rattle.std.proofs.Common.{◌≡◌, length}
use Rattle.report_line.specs.Spelling.{AreNames}
use Rattle.report_line.proofs.Rows.{prefixed}
use Rattle.report_line.proofs.readers.read_names.Given as goal

abbrev pub invariant-loop-part : goal.invariant-loop-part
invariant-loop-part l = AreNames l.names × (l.fn.word ≡ prefixed l.names l.rest)

abbrev pub decreases-loop-part : goal.decreases-loop-part
decreases-loop-part l = length l.rest
