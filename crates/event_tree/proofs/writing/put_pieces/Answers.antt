use Rattle.std.proofs.Common.{arith}
use Rattle.event_tree.proofs.Puts.{room_left, some_left, next_small}
use Rattle.event_tree.proofs.writing.put_pieces.Goals as goal

pub put_byte-next-requires : goal.put_byte-next-requires
put_byte-next-requires c =
    omega (
      arith,
      room_left c.args.out.now c.loop-entry.out c.args.start c.loop-entry.at _ _ c.loop-entry.invariant.put c.requires.room,
      some_left c.loop-entry.halves c.loop-entry.entry-index c.args.entries.now c.loop-entry-test.true,
    )

pub put_piece-end-requires-clause-small : goal.put_piece-end-requires-clause-small
put_piece-end-requires-clause-small c = next_small c.loop-entry.halves c.loop-entry.entry-index c.args.entries.now c.loop-entry-test.true c.loop-entry.invariant.kept
