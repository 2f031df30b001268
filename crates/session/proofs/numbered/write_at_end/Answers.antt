use Rattle.std.proofs.Common.{◌≤◌, ◌^◌, ◌<◌, ℕ, length, refl, arith}
use Rattle.std.specs.Fmt.{decimal}
use Rattle.std.proofs.lemmas.Fmt.{length-decimal-le}
use Rattle.std.proofs.lemmas.List.{drop-set, drop_all, length-set}
use Rattle.session.proofs.numbered.write_at_end.Goals as goal

ten_digits : (n : ℕ) → n < 2 ^ 32 → length (decimal n) ≤ 10
ten_digits n small = length-decimal-le 10 n (omega arith) (omega arith) (omega arith)

pub write_digits-requires : goal.write_digits-requires
write_digits-requires c = rw c.from.ensures (omega (arith, ten_digits c.args.n c.ranges.n.fits), omega (arith, length-set c.args.line.now 15 10))

pub returns-clause-room : goal.returns-clause-room
returns-clause-room c = omega (arith, ten_digits c.args.n c.ranges.n.fits, rw c.from.ensures at c.write_digits.ensures.start)

pub returns-clause-written : goal.returns-clause-written
returns-clause-written c = rw (c.write_digits.ensures.written, c.from.ensures, drop-set c.args.line.now 15 10 (omega arith), drop_all 16 c.args.line.now (omega arith)) refl
