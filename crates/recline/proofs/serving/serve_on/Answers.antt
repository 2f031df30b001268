-- `serve_on`: a listener never says that the service is to end.
use Rattle.recline.proofs.Stopping.{all_served}
use Rattle.recline.proofs.serving.serve_on.Goals as goal

pub returns : goal.returns
returns g c =
    let until = c.serve_until.ensures in
    rw (all_served c.args.service.sessions until.0 until.1) at until.2
