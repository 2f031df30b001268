use Rattle.std.proofs.Common.{ℕ, [], ◌<◌, length, Some, refl, arith, subst}
use Rattle.std.proofs.lemmas.Option.{same_Some}
use Rattle.propagate.specs.working.Nodes.{unwound}
use Rattle.propagate.proofs.Unwinding.{added, behind_added, unwound-length}
use Rattle.propagate.proofs.arena.Arena.prolong.Goals as goal

pub invariant_of-self-2 : goal.invariant_of-self-2
invariant_of-self-2 c =
    let within : c.args.chain < length (unwound [] c.self.inside.nodes.items) = rw c.self.view_is c.requires in
    behind_added c.self.inside.nodes.items c.push.new.self.items (Some c.args.chain) c.args.place c.in_ok-push.ensures.items c.self.invariant
    (λ j e. subst (λ (k : ℕ). k < length c.self.inside.nodes.items) (same_Some c.args.chain j e) (omega (arith, within, unwound-length [] c.self.inside.nodes.items)))

pub returns-clause-ok : goal.returns-clause-ok
returns-clause-ok c =
    rw (← c.self.view_is)
    (omega (arith, c.len-number.ensures, unwound-length [] c.self.inside.nodes.items), added c.self.inside.nodes.items (Some c.args.chain) c.args.place c.push.new.self.items _ c.in_ok-push.ensures.items refl)
