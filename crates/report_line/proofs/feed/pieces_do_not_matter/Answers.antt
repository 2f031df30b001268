use Rattle.report_line.proofs.Streams.{cut_append, fed_is}
use Rattle.report_line.proofs.feed.pieces_do_not_matter.Goals as goal

pub returns-clause-two : goal.returns-clause-two
returns-clause-two c = cut_append

pub returns-clause-all : goal.returns-clause-all
returns-clause-all c = fed_is
