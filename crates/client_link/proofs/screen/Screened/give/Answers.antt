use Rattle.std.proofs.Common.{arith, ◌≡◌, ◌∙◌, length}
use Rattle.std.proofs.lemmas.List.{length-take-le}
use Rattle.client_link.proofs.Screening.{front_given}
use Rattle.client_link.proofs.screen.Screened.give.Goals as goal

pub returns-clause-given : goal.returns-clause-given
returns-clause-given g c =
    let n = c.min-n.result in
    let few = c.min-n.ensures in
    let long : length c.copy_from_slice.new.self ≡ n = c.copy_from_slice.ensures.len ∙ length-take-le n c.args.buf.now (omega (arith, few)) in
    front_given c.args.self.now.first c.copy_from_slice.new.self _ c.args.self.now.given n c.args.self.now.held (omega (arith, few)) c.copy_from_slice.ensures.after long
