use Rattle.std.proofs.Common.{◌≡◌, take}
use Rattle.record_file.specs.Kept.{said_in}
use Rattle.record_show.specs.Numbered.{numbered}
use Rattle.record_show.specs.Lines.{record_line}
use Rattle.record_show.proofs.lines.to_lines.Given as goal

abbrev pub invariant-loop-i : goal.invariant-loop-i
invariant-loop-i l = l.out.items ≡ numbered record_line 0 (take l.i (said_in l.records))
