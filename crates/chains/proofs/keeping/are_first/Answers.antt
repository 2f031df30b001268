use Rattle.std.proofs.Common.{refl, arith}
use Rattle.chains.proofs.LineElements.{first_same}
use Rattle.chains.proofs.keeping.are_first.Goals as goal

pub returns : goal.returns
returns c = (
  λ _. first_same c.args.these.now c.args.all.now c.args.n c.requires (omega (arith, c.if-len-n.false, c.len.ensures.count)) (λ j lt. c.loop-k.invariant j (omega (arith, c.loop-k-test.false))),
  λ _. refl,
)
