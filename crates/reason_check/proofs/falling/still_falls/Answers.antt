use Rattle.std.proofs.Common.{arith, ◌-◌}
use Rattle.reason_check.proofs.Downward.{falls_first, falls_next}
use Rattle.reason_check.proofs.falling.still_falls.Goals as goal

pub returns-then-chain-i : goal.returns-then-chain-i
returns-then-chain-i c below =
    falls_next c.args.chain.now c.args.e (c.loop-i.i - 1) (omega (arith, c.loop-i-test.true)) (omega (arith, c.loop-i-test.true, c.loop-i.invariant.0))
    (λ k a b. c.loop-i.invariant.1 k (omega arith) b) c.if-chain-i.true (c.is_below.ensures.0 below) (c.requires.before c.if-not-falls.false)

pub returns : goal.returns
returns c done = falls_first c.args.chain.now c.args.e c.loop-i.i (omega (arith, c.loop-i-test.false)) c.loop-i.invariant.1 (c.requires.before c.if-not-falls.false)
