use Rattle.std.proofs.Common.{◌≡◌, take}
use Rattle.std.specs.List.{flat_map}
use Rattle.report_line.specs.Replies.{piece_text}
use Rattle.report_line.proofs.writing.write_reply.Given as goal

abbrev pub invariant-loop-piece : goal.invariant-loop-piece
invariant-loop-piece l = l.out.items ≡ flat_map piece_text (take l.piece-index l.piece-items)
