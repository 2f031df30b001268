use Rattle.std.proofs.Common.{refl}
use Rattle.session.proofs.Clients.{guest_read}
use Rattle.session.proofs.guest.Guest.receive.Goals as goal

pub invariant_of-self : goal.invariant_of-self
invariant_of-self g c = record {
  served =
      guest_read g.D.Disk.keeps g.D.Disk.view g.K.Link.told c.args.self.now.client.link c.args.self.now.client.session c.args.self.now.client.rest
      c.receive-self.new.link c.receive-self.new.self c.receive-self.result (c.if-is_open.ensures.yes refl) c.receive-self.ensures.comes c.args.self.now.served;
}
