use Rattle.report_line.proofs.Streams.{is_cut, only_cut}
use Rattle.report_line.proofs.feed.lines_of_a_stream.Goals as goal

pub returns-clause-cut : goal.returns-clause-cut
returns-clause-cut c = is_cut

pub returns-clause-only : goal.returns-clause-only
returns-clause-only c = λ stream lines stand is. only_cut lines stream stand is
