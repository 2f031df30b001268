use Rattle.std.proofs.Common.{arith}
use Rattle.std.proofs.lemmas.Fmt.{decimal_digit}
use Rattle.event_tree.proofs.Lengths.{one_digit, two_digits, two_digits_more, decimal_pair, decimal_more}
use Rattle.event_tree.proofs.Puts.{put_both}
use Rattle.event_tree.proofs.writing.+put.Goals as goal

pub put_number-put_byte-requires : goal.put_number-put_byte-requires
put_number-put_byte-requires t c = omega (arith, c.requires, one_digit c.args.n (omega arith))

pub put_number-returns-then-n-lt10 : goal.put_number-returns-then-n-lt10
put_number-returns-then-n-lt10 t c = rw (decimal_digit c.args.n (omega arith)) c.put_byte.ensures

pub put_number-put_pair-requires-clause-room : goal.put_number-put_pair-requires-clause-room
put_number-put_pair-requires-clause-room t c = omega (arith, c.requires, two_digits c.args.n (omega arith) (omega arith))

pub put_number-returns-then-n-lt100 : goal.put_number-returns-then-n-lt100
put_number-returns-then-n-lt100 t c = rw (decimal_pair c.args.n (omega arith) (omega arith)) c.put_pair.ensures

pub put_digits-put_number-last-requires : goal.put_digits-put_number-last-requires
put_digits-put_number-last-requires t c = (omega (arith, c.requires.more), omega (arith, c.requires.room, two_digits_more c.args.n c.requires.more (omega arith)))

pub put_digits-put_pair-requires-clause-room : goal.put_digits-put_pair-requires-clause-room
put_digits-put_pair-requires-clause-room t c =
    omega (arith, c.requires.room, two_digits_more c.args.n c.requires.more (omega arith), c.put_number-last.ensures.as_long, c.put_number-last.ensures.next)

pub put_digits-returns : goal.put_digits-returns
put_digits-returns t c =
    put_both c.args.out.now c.put_number-last.new.out c.put_pair.new.out _ _ _ _ _ _ c.put_number-last.ensures c.put_pair.ensures (decimal_more c.args.n c.requires.more (omega arith))
