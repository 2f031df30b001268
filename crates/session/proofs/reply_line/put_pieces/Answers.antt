use Rattle.std.proofs.lemmas.Result.{err_from_is_err_and}
use Rattle.client_link.proofs.Sent.{piece_cut}
use Rattle.report_line.specs.Replies.{piece_text}
use Rattle.session.proofs.reply_line.put_pieces.Goals as goal

pub returns-in_err-put_piece : goal.returns-in_err-put_piece
returns-in_err-put_piece g c =
    let p = err_from_is_err_and c.from_residual.result c.from_residual.ensures.1 in
    let invariant = c.loop-piece.invariant in
    rw p.1 (piece_cut piece_text _ _ _ c.in_err-put_piece.field-0.0 p.0 c.args.pieces.now c.loop-piece.piece-index _ c.loop-piece-test.true invariant.sent invariant.sound invariant.left invariant.reads c.in_err-put_piece.ensures)
