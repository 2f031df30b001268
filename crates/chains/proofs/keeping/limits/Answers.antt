use Rattle.std.proofs.Common.{ℕ, sym, ap, subst, ◌∙◌, arith}
use Rattle.chains.specs.Positions.{positions_of}
use Rattle.chains.specs.Settled.{limit}
use Rattle.chains.proofs.LineLimits.{AreLimitsTo, limits_more, limits_all}
use Rattle.chains.proofs.LineElements.{position_there}
use Rattle.chains.proofs.keeping.limits.Goals as goal

pub loop-i-preserved : goal.loop-i-preserved
loop-i-preserved c =
    let accepted = c.args.chains.now.accepted in
    rw c.in_ok-push.ensures.items
    (limits_more accepted (positions_of c.args.line.now) c.loop-i.i c.limit.result c.loop-i.limits.items c.loop-i.invariant
    (λ p named. c.limit.ensures p named ∙ ap (limit accepted p) (sym (position_there c.args.line.now c.loop-i.i c.loop-i-test.true))))

pub returns : goal.returns
returns c =
    limits_all c.args.chains.now.accepted (positions_of c.args.line.now) c.loop-i.limits.items c.recall_lawful.ensures.folded
    (subst (λ (n : ℕ). AreLimitsTo c.args.chains.now.accepted (positions_of c.args.line.now) n c.loop-i.limits.items) (omega (arith, c.loop-i-test.false, c.loop-i.auto.i-end, c.requires)) c.loop-i.invariant)
