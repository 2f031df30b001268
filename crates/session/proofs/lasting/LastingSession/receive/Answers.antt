use Rattle.session.proofs.Resting.{comes_behind}
use Rattle.session.proofs.RestReasons.{received_stage}
use Rattle.session.proofs.lasting.LastingSession.receive.Goals as goal

pub returns-clause-comes : goal.returns-clause-comes
returns-clause-comes g c = λ begun turned r. comes_behind c.receive-rest.result g.K.Link.told begun _ c.receive-rest.new.unanswered c.receive-rest.new.stage _ turned c.stage_at-self-inside.ensures (c.receive-rest.ensures.comes begun turned (rw (← c.self.view_is) at r))

pub returns-clause-why : goal.returns-clause-why
returns-clause-why g c =
    rw (← c.self.view_is)
    (received_stage g.K.NonblockingLink.finds_nothing g.K.NonblockingLink.takes_no_more c.receive-rest.result _ _ _ c.receive-rest.new.unanswered c.receive-rest.new.stage _ c.stage_at-self-inside.ensures
    c.receive-rest.ensures.why)
