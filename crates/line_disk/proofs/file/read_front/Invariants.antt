use Rattle.std.proofs.Common.{◌-◌, ◌≤◌, vec_len}
use Rattle.line_disk.proofs.file.read_front.Given as goal

abbrev pub invariant-loop-reach : goal.invariant-loop-reach
invariant-loop-reach g l = vec_len l.bytes ≤ l.len

abbrev pub decreases-loop-reach : goal.decreases-loop-reach
decreases-loop-reach g l = l.len - vec_len l.bytes
