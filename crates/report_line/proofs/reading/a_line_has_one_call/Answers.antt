use Rattle.report_line.proofs.OneCall.{one_call}
use Rattle.report_line.proofs.reading.a_line_has_one_call.Goals as goal

pub returns : goal.returns
returns c = one_call
