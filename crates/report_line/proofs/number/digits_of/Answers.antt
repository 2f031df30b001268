use Rattle.std.proofs.Common.{◌≡◌, ◌+◌, ◌-◌, ◌*◌, ◌^◌, ◌<◌, true, false, get_or, sym, arith}
use Rattle.std.specs.Char.{is_ascii_digit}
use Rattle.report_line.specs.working.Numbers.{digits_from}
use Rattle.report_line.proofs.DigitSteps.{digits_more, digits_wrong, digits_large, digits_end}
use Rattle.report_line.proofs.number.digits_of.Goals as goal

pub returns-then-not-is_ascii_digit : goal.returns-then-not-is_ascii_digit
returns-then-not-is_ascii_digit c =
    let no : is_ascii_digit (get_or c.args.word.now c.loop-b.b-index 0) ≡ false = cc in
    sym (digits_wrong c.loop-b.n c.args.word.now c.loop-b.b-index (digits_from 0 c.args.word.now) c.loop-b-test.true no c.loop-b.invariant.1)

pub returns-then-more-from : goal.returns-then-more-from
returns-then-more-from c =
    let yes : is_ascii_digit (get_or c.args.word.now c.loop-b.b-index 0) ≡ true = cc in
    let is : c.loop-b.n * 10 + (get_or c.args.word.now c.loop-b.b-index 0 - 48) ≡ c.loop-b.n * 10 + c.from.result = omega arith in
    sym (digits_large c.loop-b.n c.args.word.now c.loop-b.b-index (c.loop-b.n * 10 + c.from.result) (digits_from 0 c.args.word.now) c.loop-b-test.true yes is (omega arith) c.loop-b.invariant.1)

pub loop-b-preserved : goal.loop-b-preserved
loop-b-preserved c =
    let yes : is_ascii_digit (get_or c.args.word.now c.loop-b.b-index 0) ≡ true = cc in
    let is : c.loop-b.n * 10 + (get_or c.args.word.now c.loop-b.b-index 0 - 48) ≡ c.loop-b.n * 10 + c.from.result = omega arith in
    let small : c.loop-b.n * 10 + c.from.result < 2 ^ 32 = omega arith in
    (small, digits_more c.loop-b.n c.args.word.now c.loop-b.b-index (c.loop-b.n * 10 + c.from.result) (digits_from 0 c.args.word.now) c.loop-b-test.true yes is small c.loop-b.invariant.1)

pub returns : goal.returns
returns c = sym (digits_end c.loop-b.n c.args.word.now c.loop-b.b-index (digits_from 0 c.args.word.now) c.loop-b-test.false c.loop-b.invariant.1)
