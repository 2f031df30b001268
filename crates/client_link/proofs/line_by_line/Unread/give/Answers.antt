-- `Unread::give`: what is given and what is left are what there was.
use Rattle.std.proofs.Common.{arith, ◌≡◌, ◌∙◌, ◌+◌, ap, length, slice_range}
use Rattle.std.proofs.lemmas.List.{length-take-le}
use Rattle.client_link.proofs.Screening.{front_given}
use Rattle.client_link.proofs.line_by_line.Unread.give.Goals as goal

pub returns-clause-given : goal.returns-clause-given
returns-clause-given c =
    let unread = c.args.self.now in
    let n = c.min-n.result in
    let few = c.min-n.ensures in
    let long : length c.copy_from_slice.new.self ≡ n = c.copy_from_slice.ensures.len ∙ length-take-le n c.args.buf.now (omega (arith, few)) in
    let taken = c.copy_from_slice.ensures.after ∙ ap (λ l. slice_range l unread.given (unread.given + n)) c.deref-2.ensures.value in
    front_given unread.bytes.items c.copy_from_slice.new.self _ unread.given n unread.read (omega (arith, few)) taken long
