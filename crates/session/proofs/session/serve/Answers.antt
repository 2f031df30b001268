use Rattle.std.proofs.Common.{arith}
use Rattle.session.proofs.Ending.{going_none, going_on, stopping, stopping_endless, finished, not_handed_on}
use Rattle.session.proofs.session.serve.Goals as goal

pub loop-init : goal.loop-init
loop-init g c = record { going = going_none g.V.Server.makes g.V.Server.grounds c.requires.laws g.K.Link.told c.args.when _ _ _ c.new-feed.ensures; few = omega arith }

pub loop-preserved : goal.loop-preserved
loop-preserved g c =
    record {
      going = going_on g.V.Server.makes g.V.Server.grounds c.requires.laws g.K.Link.told c.args.when _ _ _ _ _ _ _ _ _ c.loop.counter c.loop.replies _ _ c.loop.invariant.going c.in-Ok.ensures (rw c.in_default-end.is at c.step-end.ensures.steps);
      few = omega (arith, c.loop.invariant.few, c.step-end.ensures.at_most);
    }

pub returns-in_default : goal.returns-in_default
returns-in_default g c =
    let ended = not_handed_on g.V.Server.makes g.V.Server.grounds c.requires.laws g.K.Link.told c.args.when _ _ _ _ _ _ c.loop.counter c.loop.replies _ (omega arith) c.loop.invariant.going c.in_default.ensures in
    record { session = ended.ended; leaves = ended.leaves }

pub returns-in-Some : goal.returns-in-Some
returns-in-Some g c =
    let stopped = stopping g.V.Server.makes g.V.Server.grounds c.requires.laws g.K.Link.told c.args.when _ _ _ _ c.in-Some.kind _ _ _ _ _ c.loop.counter c.loop.replies _ _ (omega arith) c.loop.invariant.going c.in-Ok.ensures (rw c.in-Some.is at c.step-end.ensures.steps) in
    let ended = finished g.V.Server.makes g.V.Server.grounds c.requires.laws g.K.Link.told c.args.when _ _ _ _ _ c.in-Some.kind _ _ _ stopped c.close.ensures in
    record { session = ended.ended; leaves = ended.leaves }

pub returns : goal.returns
returns g c =
    let stopped = stopping_endless g.V.Server.makes g.V.Server.grounds c.requires.laws g.K.Link.told c.args.when _ _ _ _ _ c.loop.counter c.loop.replies (omega arith) c.loop.invariant.going in
    let ended = finished g.V.Server.makes g.V.Server.grounds c.requires.laws g.K.Link.told c.args.when _ _ _ _ _ _ _ _ _ stopped c.close-2.ensures in
    record { session = ended.ended; leaves = ended.leaves }
