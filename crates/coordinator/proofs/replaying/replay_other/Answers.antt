use Rattle.coordinator.proofs.Checked.{same_settled}
use Rattle.coordinator.proofs.replaying.replay_other.Goals as goal

pub returns-clause-replayed : goal.returns-clause-replayed
returns-clause-replayed c = λ held after same turned.
    same_settled c.args.chains.now c.settle_again.new.chains held after c.args.turn.now.call c.args.turn.now.receipt.reply c.in-Settle.front c.in-Settle.names c.in-Settled.epoch c.in-Settled.front
    c.in-Settle.is c.in-Settled.is c.in_ok-settle_again.ensures same turned
