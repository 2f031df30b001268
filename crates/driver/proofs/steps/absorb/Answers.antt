use Rattle.std.proofs.Common.{refl}
use Rattle.driver.proofs.Owners.{owner, apart}
use Rattle.driver.proofs.Made.{makes_absorb}
use Rattle.driver.proofs.Stepped.{step_refused}
use Rattle.driver.proofs.Verdicts.{absorb_fault}
use Rattle.driver.proofs.steps.absorb.Goals as goal

pub absorbed-requires-clause-owns : goal.absorbed-requires-clause-owns
absorbed-requires-clause-owns c = owner c.args.tables.now c.args.asked.now.process c.in_ok-alive.alive c.requires.sound c.in_ok-alive.ensures

pub absorbed-requires-clause-apart : goal.absorbed-requires-clause-apart
absorbed-requires-clause-apart c =
    apart c.args.tables.now c.args.asked.now.process c.args.name.now c.in_ok-alive.alive c.in-Some.retired.now c.in-Some.ensures.0 c.requires.sound c.in_ok-alive.ensures c.in-Some.ensures.1 c.in-Some.ensures.2

pub add_reported-requires-clause-makes : goal.add_reported-requires-clause-makes
add_reported-requires-clause-makes c =
    rw c.requires.request
    (makes_absorb _ _ _ _ _ _ _ c.in_ok-alive.alive c.in-Some.retired.now c.in-Ok.stamp c.in-Some.ensures.0 c.in-Ok-next_report_naming.report _
    c.in_ok-alive.ensures c.in-Some.ensures.1 c.in-Some.ensures.2 c.in-Ok.ensures c.in-Ok-next_report_naming.ensures.report c.copy.ensures c.copy-2.ensures c.in-Ok-next_report_naming.ensures.name refl)

pub returns-in-Err : goal.returns-in-Err
returns-in-Err c =
    step_refused _ _ _ c.in-Err.fault c.requires.sound c.requires.request
    (absorb_fault _ _ _ _ c.in-Some.ensures.0 c.in_ok-alive.alive c.in-Some.retired.now c.in-Err.fault c.in_ok-alive.ensures c.in-Some.ensures.1 c.in-Err.ensures)
