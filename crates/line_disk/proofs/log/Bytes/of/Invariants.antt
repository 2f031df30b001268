use Rattle.std.proofs.Common.{◌≡◌, ◌≤◌, drop, length}
use Rattle.line_disk.specs.working.Log.{bytes_in}
use Rattle.line_disk.proofs.log.Bytes.of.Given as goal

abbrev pub invariant-loop-i : goal.invariant-loop-i
invariant-loop-i l = record { inside : l.i ≤ length l.bytes; shown : bytes_in l.shown ≡ drop l.i l.bytes }

abbrev pub decreases-loop-i : goal.decreases-loop-i
decreases-loop-i l = l.i
