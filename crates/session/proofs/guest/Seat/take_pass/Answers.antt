use Rattle.session.proofs.Clients.{seat_given, seat_waits}
use Rattle.session.proofs.guest.Seat.take_pass.Goals as goal

pub invariant_of-self : goal.invariant_of-self
invariant_of-self g c = record {
  served =
      seat_given g.D.Disk.keeps g.D.Disk.view g.K.Link.told c.args.self.now.client.link c.args.self.now.client.session c.args.self.now.client.rest c.in-Ok.pass
      c.in-Ok.ensures.ok (rw c.in-None.is at c.args.self.now.served);
}

pub invariant_of-self-in-Err : goal.invariant_of-self-in-Err
invariant_of-self-in-Err g c = record {
  served =
      seat_waits g.D.Disk.keeps g.D.Disk.view g.K.Link.told c.args.self.now.client.link c.args.self.now.client.session c.args.self.now.client.rest c.args.self.now.pass
      c.requires c.args.self.now.served;
}
