use Rattle.std.proofs.Common.{subst, ◌∙◌}
use Rattle.driver.specs.Settling.{IsClosedLine, Settles, RefusesLine}
use Rattle.script.proofs.Taking.{settle_told, settle_refused}
use Rattle.script.proofs.driving.settle.Goals as goal

pub returns-in-Err : goal.returns-in-Err
returns-in-Err c =
    settle_refused c.args.world.now c.args.names.now c.in-Ok-line_for.line.items c.args.printout.now c.catch_up.new.printout c.in-Err.refused c.catch_up.ensures.text c.in-Ok.ensures.kept c.in-Ok.ensures.none_waits
    c.in-Ok-line_for.ensures
    (subst (λ names. RefusesLine c.args.world.now names c.in-Ok-line_for.line.items c.in-Err.refused) (c.deref.ensures.value ∙ c.in-Ok-to_vec.ensures)
    (subst (λ line. RefusesLine c.args.world.now c.deref.result.now line c.in-Err.refused) c.deref-2.ensures.value c.in-Err.ensures.refused))

pub returns-in-Ok-print_settlement : goal.returns-in-Ok-print_settlement
returns-in-Ok-print_settlement c =
    settle_told c.args.world.now c.settle.new.self c.args.names.now c.in-Ok-line_for.line.items c.args.printout.now c.catch_up.new.printout c.print_settlement.new.printout c.in-Ok.ensures.kept
    c.in-Ok.ensures.none_waits c.in-Ok-line_for.ensures
    (subst (λ names. IsClosedLine c.args.world.now names c.in-Ok-line_for.line.items) (c.deref.ensures.value ∙ c.in-Ok-to_vec.ensures)
    (subst (λ line. IsClosedLine c.args.world.now c.deref.result.now line) c.deref-2.ensures.value c.in-Ok-settle.ensures.closed))
    (subst (λ line. Settles c.args.world.now line c.settle.new.self) c.deref-2.ensures.value c.in-Ok-settle.ensures.settled) c.in-Ok-print_settlement.ensures.ok
