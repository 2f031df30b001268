use Rattle.std.proofs.Common.{refl}
use Rattle.driver.proofs.Owners.{owner}
use Rattle.driver.proofs.Made.{makes_work}
use Rattle.driver.proofs.steps.work.Goals as goal

pub event-requires : goal.event-requires
event-requires c = owner c.args.tables.now c.args.asked.now.process c.in_ok-alive.alive c.requires.sound c.in_ok-alive.ensures

pub add_unreported-requires-clause-makes : goal.add_unreported-requires-clause-makes
add_unreported-requires-clause-makes c =
    rw c.requires.request (makes_work _ _ _ c.in_ok-alive.alive c.in_ok-stamp.stamp _ c.in_ok-alive.ensures c.in_ok-stamp.ensures refl)
