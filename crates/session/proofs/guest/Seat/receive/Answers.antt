use Rattle.std.proofs.Common.{refl}
use Rattle.session.proofs.Clients.{seat_read}
use Rattle.session.proofs.guest.Seat.receive.Goals as goal

pub invariant_of-self : goal.invariant_of-self
invariant_of-self g c = record {
  served =
      seat_read g.D.Disk.keeps g.D.Disk.view g.K.Link.told c.args.self.now.client.link c.args.self.now.client.session c.args.self.now.client.rest
      c.receive-self.new.link c.receive-self.new.self c.receive-self.result c.args.self.now.pass (c.if-is_open.ensures.yes refl) c.receive-self.ensures.comes c.args.self.now.served;
}
