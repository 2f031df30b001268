use Rattle.propagate.proofs.Unwinding.{unwinding_step, unwinding_less}
use Rattle.propagate.proofs.arena.reversed.Goals as goal

pub loop-rest-smaller : goal.loop-rest-smaller
loop-rest-smaller c = unwinding_less c.args.nodes.now c.args.chain c.in-Some.number _ c.loop-rest.rest c.loop-rest.places.items c.requires.behind c.in-Some.is c.loop-rest.invariant

pub loop-rest-preserved : goal.loop-rest-preserved
loop-rest-preserved c = unwinding_step c.args.nodes.now c.args.chain c.in-Some.number _ c.loop-rest.rest c.loop-rest.places.items c.push.new.self.items c.requires.behind c.in-Some.is c.loop-rest.invariant c.in_ok-push.ensures.items
