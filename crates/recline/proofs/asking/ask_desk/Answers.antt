use Rattle.std.proofs.Common.{◌∙◌, ap, append-nil, List, [], ℕ, None, Some}
use Rattle.recline.proofs.AsTold.{asks_desk}
use Rattle.recline.proofs.asking.ask_desk.Goals as goal

pub returns-then-has_reply : goal.returns-then-has_reply
returns-then-has_reply g c =
    let begins = c.in-Ok.ensures.told ∙ ap (λ (l : List ℕ). record { left = Some l; held = Some []; waiting = []; reads = 0; failures = 0; stalls = 0; ended = None }) (append-nil c.args.line.now) in
    asks_desk _ g.F.Link.told c.args.line.now c.written.result.now c.in-Ok.link c.run-end.new.link c.args.desk.now c.run-end.new.desk c.run-end.result.kind c.run-end.result.replies
    (g.K.Link.told c.args.client.now) (g.K.Link.told c.hand_over.new.client) c.args.faults.now c.hand_over.new.faults c.hand_over.result begins c.run-end.ensures.session c.run-end.ensures.leaves c.written.ensures (c.has_reply.ensures.0 c.if-has_reply.true) c.hand_over.ensures
