use Rattle.std.proofs.Common.{[], ◌∷◌, None, refl, arith}
use Rattle.propagate.proofs.Unwinding.{added, unwound-length}
use Rattle.propagate.proofs.arena.Arena.start.Goals as goal

pub returns-clause-ok : goal.returns-clause-ok
returns-clause-ok c =
    rw (← c.self.view_is)
    (omega (arith, c.len-number.ensures, unwound-length [] c.self.inside.nodes.items), added c.self.inside.nodes.items None c.args.place c.push.new.self.items (c.args.place ∷ []) c.in_ok-push.ensures.items refl)
