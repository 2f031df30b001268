use Rattle.session.proofs.Resting.{begins}
use Rattle.session.proofs.lasting.LastingSession.new.Goals as goal

pub returns : goal.returns
returns g c = begins g.K.Link.told c.args.link.now c.new.result c.new.ensures
