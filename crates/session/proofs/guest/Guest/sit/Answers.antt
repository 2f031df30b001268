use Rattle.session.proofs.Clients.{guest_sits}
use Rattle.session.proofs.guest.Guest.sit.Goals as goal

pub invariant_of-result : goal.invariant_of-result
invariant_of-result g c = record { served = guest_sits g.D.Disk.keeps g.D.Disk.view g.K.Link.told c.args.self.client.link c.args.self.client.session c.args.self.client.rest c.args.self.served }
