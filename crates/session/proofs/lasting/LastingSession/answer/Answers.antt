use Rattle.session.proofs.Resting.{answered_behind}
use Rattle.session.proofs.RestReasons.{answered_stage}
use Rattle.session.proofs.lasting.LastingSession.answer.Goals as goal

pub returns-clause-comes : goal.returns-clause-comes
returns-clause-comes g c = λ begun turned r.
    answered_behind g.D.Disk.keeps g.D.Disk.view c.answer-rest.result g.K.Link.told begun _ c.answer-rest.new.unanswered c.answer-rest.new.stage _ turned _ _ c.stage_at-self-inside.ensures (c.answer-rest.ensures.comes begun turned (rw (← c.self.view_is) at r))

pub returns-clause-why : goal.returns-clause-why
returns-clause-why g c =
    rw (← c.self.view_is)
    (answered_stage g.K.NonblockingLink.takes_no_more c.answer-rest.result _ _ _ c.answer-rest.new.unanswered c.answer-rest.new.stage _ c.stage_at-self-inside.ensures
    c.answer-rest.ensures.why)
