use Rattle.std.proofs.Common.{◌≡◌, ℕ, length, subst, arith}
use Rattle.coordinator.specs.working.Marks.{AreOwned}
use Rattle.coordinator.proofs.auditing.mark_all.Goals as goal

pub returns-clause-owned : goal.returns-clause-owned
returns-clause-owned g c =
    let at : c.loop-place.place ≡ length c.args.passes.now = omega arith in
    subst (λ (n : ℕ). AreOwned c.args.turns.now c.args.passes.now c.loop-place.marks c.loop-place.owners n 0) at c.loop-place.invariant.1
