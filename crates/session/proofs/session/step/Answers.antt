use Rattle.std.proofs.Common.{take, rules, arith}
use Rattle.std.proofs.lemmas.List.{length-take}
use Rattle.session.proofs.Steps.{step_failed, step_end, step_refused, step_served, few_served}
use Rattle.session.proofs.session.step.Goals as goal

pub returns-in_default-clause-steps : goal.returns-in_default-clause-steps
returns-in_default-clause-steps g c = step_failed g.V.Server.makes g.V.Server.grounds c.requires.laws g.K.Link.told c.args.when _ _ _ _ _ c.read.new.buf c.requires.some c.in_default.ensures.read

pub returns-then-n-eq0-clause-steps : goal.returns-then-n-eq0-clause-steps
returns-then-n-eq0-clause-steps g c = step_end g.V.Server.makes g.V.Server.grounds c.requires.laws g.K.Link.told c.args.when _ _ _ _ c.in-Ok.n c.read.new.buf c.requires.some c.if-n-eq0.true (search rules) c.in-Ok.ensures.read

pub returns-in_default-push-clause-steps : goal.returns-in_default-push-clause-steps
returns-in_default-push-clause-steps g c = step_refused g.V.Server.makes g.V.Server.grounds c.requires.laws g.K.Link.told c.args.when _ _ _ _ _ c.in-Ok.n c.read.new.buf (omega (arith, length-take c.in-Ok.n c.read.new.buf, c.in-Ok.ensures.bound, c.if-n-eq0.false)) c.in-Ok.ensures.read

pub returns-clause-steps : goal.returns-clause-steps
returns-clause-steps g c =
    step_served g.V.Server.makes g.V.Server.grounds c.requires.laws g.K.Link.told c.args.when c.serve_lines-end.result.0 _ _ _ _ c.args.feed.now c.push.new.self _ _ c.in-Ok.n _ c.read.new.buf c.in-Ok-push.lines (omega (arith, length-take c.in-Ok.n c.read.new.buf, c.in-Ok.ensures.bound, c.if-n-eq0.false)) c.in-Ok.ensures.read c.in-Ok-push.ensures.cut c.serve_lines-end.ensures.served c.kind_after.ensures

pub returns-clause-at_most : goal.returns-clause-at_most
returns-clause-at_most g c =
    few_served c.args.feed.now c.push.new.self (take c.in-Ok.n c.read.new.buf) c.in-Ok-push.lines _ 8192 c.in-Ok-push.ensures.cut c.serve_lines-end.ensures.at_most
    (omega (arith, length-take c.in-Ok.n c.read.new.buf, c.in-Ok.ensures.bound))
