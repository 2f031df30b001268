use Rattle.chains.specs.Held.{held_of}
use Rattle.script.proofs.Settled.{known_then, room_then}
use Rattle.picture.proofs.following.settle_chains.Goals as goal

pub settle_named-requires-clause-known : goal.settle_named-requires-clause-known
settle_named-requires-clause-known c = known_then (held_of c.args.chains.now) c.front.result c.args.names.now c.in-Ok.ensures.ok

pub settle_named-requires-clause-room : goal.settle_named-requires-clause-room
settle_named-requires-clause-room c = room_then (held_of c.args.chains.now) c.front.result c.args.names.now c.in-Ok.ensures.ok
