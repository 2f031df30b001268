use Rattle.session.proofs.Clients.{seat_answered, seat_gained}
use Rattle.session.proofs.guest.Seat.answer_by_pass.Goals as goal

pub invariant_of-self : goal.invariant_of-self
invariant_of-self g c = record { served = c.args.self.now.served }

pub invariant_of-self-2 : goal.invariant_of-self-2
invariant_of-self-2 g c = record {
  served =
      seat_answered g.D.Disk.keeps g.D.Disk.view g.K.Link.told c.args.self.now.client.link c.args.self.now.client.session c.args.self.now.client.rest
      c.answer-self.new.link c.answer-self.new.self c.answer-self.result c.in-Some.pass c.answer-self.new.pass c.requires.goes
      c.answer-self.ensures.comes (rw c.in-Some.is at c.args.self.now.served);
}

pub returns-clause-gains : goal.returns-clause-gains
returns-clause-gains g c =
    rw c.in-Some.is
    (seat_gained g.D.Disk.keeps g.D.Disk.view g.K.Link.told c.args.self.now.client.link c.args.self.now.client.session c.args.self.now.client.rest
    c.answer-self.new.link c.answer-self.new.self c.answer-self.result c.in-Some.pass c.answer-self.new.pass c.requires.goes
    c.answer-self.ensures.comes (rw c.in-Some.is at c.args.self.now.served))
