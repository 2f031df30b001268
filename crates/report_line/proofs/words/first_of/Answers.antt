use Rattle.std.proofs.Common.{length, subst, arith}
use Rattle.memchr.specs.Find.{is_byte, Passes, Nowhere}
use Rattle.report_line.proofs.Firsts.{none_up_to, found_behind}
use Rattle.report_line.proofs.words.first_of.Goals as goal

pub returns-in-Some-memchr : goal.returns-in-Some-memchr
returns-in-Some-memchr c =
    let s = c.split_at.ensures in
    found_behind c.args.byte 8 c.args.bytes.now c.split_at.result.0.now c.split_at.result.1.now s.front s.back s.front_len s.back_len
    c.in-None.ensures c.in-Some-memchr.at _ (omega (arith, s.front_len)) c.in-Some-memchr.ensures

pub returns-in-None-memchr : goal.returns-in-None-memchr
returns-in-None-memchr c =
    let s = c.split_at.ensures in
    subst (Nowhere (Passes (is_byte c.args.byte) c.args.bytes.now) 0) (omega (arith, s.back_len))
    (none_up_to c.args.byte 8 c.args.bytes.now c.split_at.result.0.now c.split_at.result.1.now s.front s.back s.front_len s.back_len c.in-None.ensures
    (length c.split_at.result.1.now) c.in-None-memchr.ensures)
