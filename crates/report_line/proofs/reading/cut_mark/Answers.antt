use Rattle.report_line.proofs.Marks.{wrong_mark}
use Rattle.report_line.proofs.reading.cut_mark.Goals as goal

pub returns-in-None : goal.returns-in-None
returns-in-None c = wrong_mark c.args.kind.now c.in-Some.word.now c.in-Some.digits.now c.in-Some.ensures.0 c.in-Some.ensures.1 c.in-None.ensures
