use Rattle.std.proofs.Common.{rules}
use Rattle.coordinator.proofs.Made.{answered, made_when}
use Rattle.coordinator.proofs.Answering.{taken_when}
use Rattle.coordinator.proofs.coordinator.Coordinator.ask.Goals as goal

pub show_line-requires-clause-taken : goal.show_line-requires-clause-taken
show_line-requires-clause-taken g c κs within = taken_when _ _ c.args.pass.now c.in-Ok.asked c.in_ok-snapshot.snapshot c.in-Some.chains c.take.new.pass c.in-Some.is c.in_ok-snapshot.ensures.ok

pub returns-in_err-snapshot : goal.returns-in_err-snapshot
returns-in_err-snapshot g c = record { turn = record { ok = search rules; stands = search rules; err = search rules; foreign = search rules } }

pub returns-in_default-snapshot : goal.returns-in_default-snapshot
returns-in_default-snapshot g c = record { turn = record { ok = search rules; stands = search rules; err = search rules; foreign = search rules } }

pub returns : goal.returns
returns g c =
    let made = made_when g.D.Disk.keeps g.D.Disk.view c.args.pass.now c.in-Ok.asked c.args.call c.in_ok-snapshot.snapshot c.in-Some.chains c.take.new.pass c.show_line.new.pass
    c.in-Ok.ensures c.in-Some.is c.in_ok-snapshot.ensures.stands c.show_line.ensures in
    record { turn = record { ok = answered g.D.Disk.keeps g.D.Disk.view _ _ _ made; stands = made; err = tt; foreign = tt } }
