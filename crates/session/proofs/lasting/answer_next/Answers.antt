use Rattle.std.proofs.Common.{Some}
use Rattle.session.proofs.Resting.{flushed_so}
use Rattle.session.proofs.RestReasons.{flush_stepped, line_stepped}
use Rattle.session.proofs.lasting.answer_next.Goals as goal

pub returns-in-Some-clause-why : goal.returns-in-Some-clause-why
returns-in-Some-clause-why g c = flush_stepped g.K.NonblockingLink.takes_no_more c.in-Some.rest _ _ c.args.unanswered.now _ _ c.in-Some.ensures.why

pub returns-in-Some-clause-comes : goal.returns-in-Some-clause-comes
returns-in-Some-clause-comes g c = λ begun turned r. flushed_so g.D.Disk.keeps g.D.Disk.view g.K.Link.told begun _ _ turned _ (Some c.in-Some.rest) (c.in-Some.ensures.goes begun turned c.args.unanswered.now r)

pub returns-clause-why : goal.returns-clause-why
returns-clause-why g c = line_stepped g.K.NonblockingLink.takes_no_more _ _ _ c.args.unanswered.now _ _ _ c.in_default.ensures.why.1.1 c.answer_line.ensures.why

pub returns-clause-comes : goal.returns-clause-comes
returns-clause-comes g c = λ begun turned r. c.answer_line.ensures.comes begun turned (c.in_default.ensures.goes begun turned c.args.unanswered.now r)
