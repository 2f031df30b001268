use Rattle.std.proofs.Common.{refl}
use Rattle.driver.proofs.Owners.{owner}
use Rattle.driver.proofs.Made.{makes_receive}
use Rattle.driver.proofs.steps.receive.Goals as goal

pub received-requires : goal.received-requires
received-requires c = owner c.args.tables.now c.args.asked.now.process c.in_ok-alive.alive c.requires.sound c.in_ok-alive.ensures

pub add_unreported-requires-clause-makes : goal.add_unreported-requires-clause-makes
add_unreported-requires-clause-makes c =
    rw c.requires.request
    (makes_receive _ _ _ _ _ c.in_ok-alive.alive c.in_ok-stamp.stamp c.in-Some.came.now c.in-Some.ensures.0 _
    c.in_ok-alive.ensures c.in-Some.ensures.1 c.in-Some.ensures.2 c.in_ok-stamp.ensures c.copy.ensures refl)
