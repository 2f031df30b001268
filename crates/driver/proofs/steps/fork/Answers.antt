use Rattle.std.proofs.Common.{refl}
use Rattle.driver.proofs.Owners.{owner}
use Rattle.driver.proofs.Made.{makes_fork}
use Rattle.driver.proofs.Stepped.{step_refused}
use Rattle.driver.proofs.Verdicts.{fork_fault}
use Rattle.driver.proofs.steps.fork.Goals as goal

pub halves-requires : goal.halves-requires
halves-requires c = owner c.args.tables.now c.args.asked.now.process c.in_ok-alive.alive c.requires.sound c.in_ok-alive.ensures

pub add_reported-requires-clause-makes : goal.add_reported-requires-clause-makes
add_reported-requires-clause-makes c =
    rw (c.requires.request, c.born.ensures)
    (makes_fork _ _ _ c.args.child.now _ _ c.in_ok-alive.alive c.in-Ok.halves.0 c.in-Ok.halves.1 c.in-Ok-fork_parts.parts _
    c.in_ok-alive.ensures (c.is_born.ensures.0 c.if-is_born.false) c.in-Ok.ensures c.in-Ok-fork_parts.ensures.ok refl c.copy.ensures refl)

pub returns-in-Err : goal.returns-in-Err
returns-in-Err c =
    step_refused _ _ _ c.in-Err.fault c.requires.sound c.requires.request
    (fork_fault _ _ _ _ c.in_ok-alive.alive c.in-Err.fault c.in_ok-alive.ensures (c.is_born.ensures.0 c.if-is_born.false) c.in-Err.ensures)
