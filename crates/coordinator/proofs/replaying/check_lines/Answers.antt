use Rattle.std.proofs.Common.{◌≡◌, ℕ, List, length, refl, sym, subst, arith}
use Rattle.chains.specs.Held.{held_of}
use Rattle.coordinator.specs.working.Checks.{AreCheckedTo, AreRight}
use Rattle.coordinator.specs.declared.marking.Owner.{Owner}
use Rattle.coordinator.proofs.Checked.{replayed_more, checked_more, wrong_there}
use Rattle.coordinator.proofs.Remembered.{forgotten}
use Rattle.coordinator.proofs.replaying.check_lines.Goals as goal

pub check_entry-requires : goal.check_entry-requires
check_entry-requires g c = subst (λ (os : List Owner). AreRight c.args.passes.now (held_of c.loop-i.chains) os) (sym c.deref.ensures.value) c.loop-i.invariant.2

pub returns-in-Err-clause-err : goal.returns-in-Err-clause-err
returns-in-Err-clause-err g c =
    wrong_there (held_of c.args.opening.now) c.args.turns.now c.args.passes.now _ c.loop-i.chains c.loop-i.i c.in-Err.fault c.loop-i.invariant.0 c.in-Err.ensures.err

pub loop-i-preserved : goal.loop-i-preserved
loop-i-preserved g c =
    let opening = held_of c.args.opening.now in
    let ts = c.args.turns.now in (
      replayed_more opening ts c.loop-i.chains c.replay.new.chains c.loop-i.i c.index-turns-i.result (omega arith) c.index-turns-i.is
          (λ held after same turned. c.in-Ok-replay.ensures.replayed held after same turned) c.loop-i.invariant.0,
      checked_more opening ts c.args.passes.now c.args.owners.now c.loop-i.chains c.loop-i.i _ refl c.loop-i.invariant.0 c.in-Ok.ensures.ok c.loop-i.invariant.1,
      forgotten c.args.passes.now c.loop-i.chains c.replay.new.chains c.remember.new.found.items c.forget_if.new.found.items c.in-Ok-replay.changed c.forget_if.ensures c.in-Ok-replay.ensures.unchanged
          (c.remember.ensures (held_of c.loop-i.chains) c.in-Ok.ensures.ok c.loop-i.invariant.2),
    )

pub returns-clause-ok : goal.returns-clause-ok
returns-clause-ok g c =
    let at : c.loop-i.i ≡ length c.args.turns.now = omega arith in
    subst (λ (n : ℕ). AreCheckedTo (held_of c.args.opening.now) c.args.turns.now c.args.passes.now c.args.owners.now n) at c.loop-i.invariant.1
