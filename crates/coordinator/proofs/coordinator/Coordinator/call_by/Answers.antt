use Rattle.std.proofs.Common.{rules}
use Rattle.coordinator.proofs.Made.{answered}
use Rattle.coordinator.proofs.coordinator.Coordinator.call_by.Goals as goal

pub returns-in_err-turn : goal.returns-in_err-turn
returns-in_err-turn g c = record { turn = record { ok = search rules; stands = search rules; err = search rules; foreign = search rules } }

pub returns : goal.returns
returns g c =
    let made = c.in_ok-turn.ensures.stands in
    record { turn = record { ok = answered g.D.Disk.keeps g.D.Disk.view _ _ _ made; stands = made; err = tt; foreign = tt } }
