use Rattle.std.proofs.Common.{◌≡◌, drop}
use Rattle.line_disk.specs.working.Noting.{noted_calls}
use Rattle.line_disk.specs.Replay.{image_at}
use Rattle.line_disk.proofs.image.image_of.Given as goal

abbrev pub invariant-loop-call : goal.invariant-loop-call
invariant-loop-call l = image_at l.first (noted_calls l.noted) l.k l.n ≡ image_at l.file.items (noted_calls (drop l.call-index l.noted)) l.left l.n
