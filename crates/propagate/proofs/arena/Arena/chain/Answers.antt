use Rattle.std.proofs.Common.{[], ◌<◌, arith, ap}
use Rattle.std.specs.Prelude.{length, List}
use Rattle.propagate.specs.declared.arena.Node.{Node}
use Rattle.propagate.specs.working.Nodes.{unwound}
use Rattle.propagate.proofs.Unwinding.{unwound-length}
use Rattle.propagate.proofs.arena.Arena.chain.Goals as goal

pub reversed-requires-clause-within : goal.reversed-requires-clause-within
reversed-requires-clause-within c =
    let within : c.args.chain < length (unwound [] c.self.inside.nodes.items) = rw c.self.view_is c.requires in
    omega (arith, within, unwound-length [] c.self.inside.nodes.items, ap (λ (ns : List Node). length ns) c.deref.ensures.value)
