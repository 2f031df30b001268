use Rattle.report_line.proofs.Numerals.{number_told}
use Rattle.report_line.proofs.number.number_in.Goals as goal

pub returns : goal.returns
returns c = number_told c.said_by.result c.args.word.now c.said_by.ensures
