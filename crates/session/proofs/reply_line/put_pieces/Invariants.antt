use Rattle.std.proofs.Common.{◌≡◌, take}
use Rattle.std.specs.List.{flat_map}
use Rattle.std.specs.Io.KnownBytes.{Appends}
use Rattle.client_link.specs.Links.{IsSound}
use Rattle.report_line.specs.Replies.{piece_text}
use Rattle.session.proofs.reply_line.put_pieces.Given as goal

abbrev pub invariant-loop-piece : goal.invariant-loop-piece
invariant-loop-piece g l = record {
  sent : Appends (g.K.Link.told l.fn.link).held (g.K.Link.told l.link).held (flat_map piece_text (take l.piece-index l.pieces));
  sound : IsSound (g.K.Link.told l.fn.link) (g.K.Link.told l.link);
  left : (g.K.Link.told l.link).left ≡ (g.K.Link.told l.fn.link).left;
  reads : (g.K.Link.told l.link).reads ≡ (g.K.Link.told l.fn.link).reads;
}
