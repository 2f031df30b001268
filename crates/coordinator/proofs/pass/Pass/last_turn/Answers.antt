use Rattle.std.proofs.Common.{◌-◌, length, ap, ◌∙◌, arith}
use Rattle.coordinator.proofs.Rising.{last-get}
use Rattle.coordinator.proofs.pass.Pass.last_turn.Goals as goal

pub returns-in-len1-up : goal.returns-in-len1-up
returns-in-len1-up g c =
    rw (← c.self.view_is) (rw (← c.as_slice.ensures.value)
    (ap (λ r. r.turn) c.receipt.ensures ∙ last-get 0 c.as_slice.result.now (length c.as_slice.result.now - 1) c.last-item.result (omega arith) c.last-item.is))
