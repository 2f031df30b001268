use Rattle.session.proofs.Clients.{given_then}
use Rattle.session.proofs.guest.Seat.answer.Goals as goal

pub returns-then-take_pass-clause-gains : goal.returns-then-take_pass-clause-gains
returns-then-take_pass-clause-gains g c = given_then g.D.Disk.keeps g.D.Disk.view c.args.self.now.pass c.take_pass.new.self.pass c.answer_by_pass.new.self.pass c.take_pass.ensures.given c.answer_by_pass.ensures.gains
