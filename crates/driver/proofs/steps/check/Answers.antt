use Rattle.std.proofs.Common.{refl}
use Rattle.driver.proofs.Owners.{owner}
use Rattle.driver.proofs.Made.{makes_check}
use Rattle.driver.proofs.steps.check.Goals as goal

pub worked-requires : goal.worked-requires
worked-requires c = owner c.args.tables.now c.args.asked.now.process c.in_ok-alive.alive c.requires.sound c.in_ok-alive.ensures

pub add_reported-requires-clause-makes : goal.add_reported-requires-clause-makes
add_reported-requires-clause-makes c =
    rw c.requires.request (makes_check _ _ _ c.in_ok-alive.alive c.in_ok-stamp.stamp c.in_ok-stamp.report _ c.in_ok-alive.ensures c.in_ok-stamp.ensures.0 c.in_ok-stamp.ensures.1 refl)
