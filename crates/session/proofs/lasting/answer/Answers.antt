use Rattle.std.proofs.Common.{◌++◌, Some, None}
use Rattle.session.proofs.Resting.{answered_then, answered_all, answered_due}
use Rattle.session.proofs.RestReasons.{first_answered, later_answered, later_moved}
use Rattle.session.proofs.lasting.answer.Goals as goal

pub returns-in-Some-clause-why : goal.returns-in-Some-clause-why
returns-in-Some-clause-why g c = first_answered g.K.NonblockingLink.takes_no_more c.in-Some.rest _ _ _ _ c.in-Some.ensures.why

pub returns-in-Some-clause-comes : goal.returns-in-Some-clause-comes
returns-in-Some-clause-comes g c = λ begun turned r. answered_all g.D.Disk.keeps g.D.Disk.view g.K.Link.told begun _ _ turned _ _ c.in-Some.rest (c.in-Some.ensures.comes begun turned r)

pub loop-init : goal.loop-init
loop-init g c = (c.in_default.ensures.why, c.in_default.ensures.comes)

pub returns-in-Some-answer_next-clause-why : goal.returns-in-Some-answer_next-clause-why
returns-in-Some-answer_next-clause-why g c = later_answered g.K.NonblockingLink.takes_no_more c.in-Some-answer_next.rest _ _ _ _ _ _ c.loop.invariant.0.0 c.loop.invariant.0.1 c.in-Some-answer_next.ensures.why

pub returns-in-Some-answer_next-clause-comes : goal.returns-in-Some-answer_next-clause-comes
returns-in-Some-answer_next-clause-comes g c = λ begun turned r.
    let a = c.loop.invariant.1 begun turned r in
    answered_all g.D.Disk.keeps g.D.Disk.view g.K.Link.told begun _ _ turned _ _ c.in-Some-answer_next.rest
    (answered_then g.D.Disk.keeps g.D.Disk.view g.K.Link.told begun _ _ _ _ turned _ _ _ (Some c.in-Some-answer_next.rest) a
    (c.in-Some-answer_next.ensures.comes begun (turned ++ a.more) a.goes))

pub loop-preserved : goal.loop-preserved
loop-preserved g c = (
  (later_moved _ _ _ c.loop.invariant.0.0 c.loop.invariant.0.1 c.in_default-answer_next.ensures.why, c.loop.invariant.0.1),
  λ begun turned r.
      let a = c.loop.invariant.1 begun turned r in
      answered_then g.D.Disk.keeps g.D.Disk.view g.K.Link.told begun _ _ _ _ turned _ _ _ None a
      (c.in_default-answer_next.ensures.comes begun (turned ++ a.more) a.goes),
)

pub returns-clause-why : goal.returns-clause-why
returns-clause-why g c = c.loop.invariant.0.0

pub returns-clause-comes : goal.returns-clause-comes
returns-clause-comes g c = λ begun turned r. answered_due g.D.Disk.keeps g.D.Disk.view g.K.Link.told begun _ _ turned _ _ (c.loop.invariant.1 begun turned r)
