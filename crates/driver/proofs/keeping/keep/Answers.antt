use Rattle.driver.specs.working.Made.{again}
use Rattle.driver.specs.working.Tables.{history_in}
use Rattle.driver.proofs.GoingOver.{is_ready, ready_still}
use Rattle.driver.proofs.Lined.{step_line}
use Rattle.driver.proofs.keeping.keep.Goals as goal

pub add-requires-clause-ready : goal.add-requires-clause-ready
add-requires-clause-ready c =
    let alive = c.in-Ok.ensures in
    ready_still c.args.tables.now c.reserve.new.tables (again c.in-Ok-remade.made) c.reserve.ensures.unchanged
    (is_ready c.args.tables.now.root (history_in c.args.tables.now) c.args.step.now c.in-Ok.alive.reports (again c.in-Ok-remade.made) c.requires.lawful alive.reports c.in-Ok-remade.ensures.ok
    (step_line c.args.tables.now.root (history_in c.args.tables.now) c.args.step.now alive.last c.in-Ok.alive.stamp.now c.in-Ok.alive.reports alive.lives alive.stamp alive.reports c.know_step.ensures
    c.in-Ok-remade.ensures.at_most))
