use Rattle.std.proofs.Common.{◌≤◌, ◌-◌, length, drop, arith, length-drop}
use Rattle.std.proofs.lemmas.List.{length-take-le}
use Rattle.session.proofs.reply_line.put_numbered.Goals as goal

pub overflow_sub-start : goal.overflow_sub-start
overflow_sub-start g c = omega (arith, c.write_at_end-digits.ensures.room, c.requires)

pub copy_from_slice-requires : goal.copy_from_slice-requires
copy_from_slice-requires g c =
    let e = c.write_at_end-digits in
    let start = e.result - g.row.N in
    let room : e.result - start ≤ length (drop start e.new.line) = omega (arith, length-drop start e.new.line, e.ensures.start, e.ensures.room, e.array_long, c.requires) in
    omega (arith, length-take-le (e.result - start) (drop start e.new.line) room, c.told-word, e.ensures.room, c.requires)
