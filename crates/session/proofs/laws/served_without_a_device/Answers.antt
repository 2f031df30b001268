use Rattle.session.proofs.Unfailing.{none_fails}
use Rattle.session.proofs.laws.served_without_a_device.Goals as goal

pub returns : goal.returns
returns c = none_fails
