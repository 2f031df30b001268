use Rattle.session.proofs.Gaining.{puts_last}
use Rattle.session.proofs.over_coordinator.put_shown.Goals as goal

pub returns-in-Some : goal.returns-in-Some
returns-in-Some g c = puts_last _ _ _ _ c.in-Some.shown.now (rw c.in-Some.is at c.shown.ensures) c.put_reply.ensures

pub returns-in-None : goal.returns-in-None
returns-in-None g c = absurd (c.requires (rw c.in-None.is at c.shown.ensures))
