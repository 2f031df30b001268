use Rattle.std.proofs.Common.{[], ◌∷◌, refl, ap, length, length-append, arith}
use Rattle.std.specs.Fmt.{decimal}
use Rattle.event_tree.specs.working.Pieces.{pieces}
use Rattle.event_tree.proofs.Puts.{put_both, node_kept, node_spelled}
use Rattle.event_tree.proofs.writing.put_text.Goals as goal

pub put_pieces-requires-clause-kept : goal.put_pieces-requires-clause-kept
put_pieces-requires-clause-kept c = node_kept _ _ _ _ _ _ c.in-Node.ensures c.entries.ensures.are c.split_at.ensures.back c.requires.shallow

pub put_pieces-requires-clause-room : goal.put_pieces-requires-clause-room
put_pieces-requires-clause-room c =
    omega (
      arith,
      c.requires.room,
      ap length (node_spelled c.args.e.now _ _ _ _ _ c.in-Node.ensures c.entries.ensures.are c.split_at.ensures.back),
      length-append (decimal c.in-Node.n) (pieces 0 c.split_at.result.1.now),
      c.put_byte-base.ensures.as_long,
      c.put_byte-base.ensures.next,
      c.put_number-end.ensures.as_long,
      c.put_number-end.ensures.next,
    )

pub returns-in-Node : goal.returns-in-Node
returns-in-Node c =
    put_both c.args.out.now c.put_number-end.new.out c.put_pieces.new.out c.args.start _ _ (40 ∷ decimal c.in-Node.n) _ _
    (put_both c.args.out.now c.put_byte-base.new.out c.put_number-end.new.out _ _ _ (40 ∷ []) (decimal c.in-Node.n) _ c.put_byte-base.ensures c.put_number-end.ensures refl)
    c.put_pieces.ensures
    (node_spelled c.args.e.now _ _ _ _ _ c.in-Node.ensures c.entries.ensures.are c.split_at.ensures.back)
