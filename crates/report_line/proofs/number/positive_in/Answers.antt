use Rattle.std.proofs.Common.{◌≡◌, Some, None}
use Rattle.report_line.specs.working.Numbers.{number}
use Rattle.report_line.proofs.Numerals.{no_number, no_count, count_is}
use Rattle.report_line.proofs.number.positive_in.Goals as goal

pub returns-in-None : goal.returns-in-None
returns-in-None c = let e : number c.args.word.now ≡ None = cc in no_number c.args.word.now e

pub returns-in-Some-eq0 : goal.returns-in-Some-eq0
returns-in-Some-eq0 c = let e : number c.args.word.now ≡ Some 0 = cc in no_count c.args.word.now e

pub returns-in-Some : goal.returns-in-Some
returns-in-Some c =
    let e : number c.args.word.now ≡ Some c.in-Some.n = cc in
    count_is c.args.word.now c.in-Some.n e c.in-Some.n-test.1
