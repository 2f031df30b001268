use Rattle.session.proofs.Clients.{seat_shows_all, seat_stands}
use Rattle.session.proofs.guest.Seat.stand.Goals as goal

pub invariant_of-guest : goal.invariant_of-guest
invariant_of-guest g c = record { served = seat_stands g.D.Disk.keeps g.D.Disk.view g.K.Link.told c.args.self.client.link c.args.self.client.session c.args.self.client.rest c.args.self.pass c.args.self.served }

pub answered_by-requires : goal.answered_by-requires
answered_by-requires g c = seat_shows_all g.D.Disk.keeps g.D.Disk.view g.K.Link.told c.args.self.client.link c.args.self.client.session c.args.self.client.rest c.args.self.pass c.args.self.served
