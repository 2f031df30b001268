use Rattle.std.proofs.Common.{◌≡◌, length, length-append, List, [], ◌∷◌, ◌++◌, ap, refl, subst, arith}
use Rattle.coordinator.specs.Passes.{PassEntry, Rises}
use Rattle.coordinator.specs.working.Parts.{with_line}
use Rattle.coordinator.proofs.Rising.{rises-replace}
use Rattle.coordinator.proofs.pass.Pass.show.Goals as goal

pub invariant_of-self-2 : goal.invariant_of-self-2
invariant_of-self-2 g c =
    let es : List PassEntry = c.pop.new.self.items in
    let e : PassEntry = c.in-Some.last in
    let e' : PassEntry = with_line e c.args.text in
    let was : c.self.inside.entries.items ≡ es ++ e ∷ [] = c.in-Some.ensures.items in
    let now : c.push_reserved.new.self.items ≡ es ++ e' ∷ [] = rw (← c.with_line.ensures) c.push_reserved.ensures.items in (
      c.self.invariant.0,
      c.self.invariant.1,
      omega (arith, c.self.invariant.2, ap length was, ap length now, length-append es (e ∷ []), length-append es (e' ∷ [])),
      rw now (rises-replace 0 es e e' refl (subst (λ (xs : List PassEntry). Rises 0 xs) was c.self.invariant.3)),
    )
