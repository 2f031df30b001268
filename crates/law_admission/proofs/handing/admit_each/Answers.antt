use Rattle.std.proofs.Common.{Ok, Err}
use Rattle.chains.specs.Held.{held_of}
use Rattle.law_admission.proofs.OneByOne.{one_turn, none_taken, taken_more, first_refused, all_taken}
use Rattle.law_admission.proofs.handing.admit_each.Goals as goal

pub loop-place-init : goal.loop-place-init
loop-place-init c = none_taken (held_of c.args.chains.now) c.args.reports.now

pub loop-place-preserved : goal.loop-place-preserved
loop-place-preserved c =
    taken_more (held_of c.args.chains.now) c.args.reports.now c.loop-place.place c.loop-place.chains c.admit.new.self c.index-reports-place.result c.in-Ok.field-0
    c.loop-place-test.true c.index-reports-place.is c.loop-place.invariant
    (one_turn c.loop-place.chains c.admit.new.self c.epoch.result c.index-reports-place.result (Ok c.in-Ok.field-0) c.epoch.ensures c.in-Ok.ensures.turn)

pub returns-in-Err : goal.returns-in-Err
returns-in-Err c =
    first_refused (held_of c.args.chains.now) c.args.reports.now c.loop-place.place c.loop-place.chains c.admit.new.self c.index-reports-place.result c.in-Err.why
    c.loop-place-test.true c.index-reports-place.is c.loop-place.invariant
    (one_turn c.loop-place.chains c.admit.new.self c.epoch.result c.index-reports-place.result (Err c.in-Err.why) c.epoch.ensures c.in-Err.ensures.turn)

pub returns : goal.returns
returns c = all_taken (held_of c.args.chains.now) c.args.reports.now c.loop-place.place (held_of c.loop-place.chains) c.loop-place-test.false c.loop-place.invariant
