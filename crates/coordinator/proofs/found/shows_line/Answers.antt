use Rattle.std.proofs.Common.{sym, ap, ◌∙◌}
use Rattle.coordinator.proofs.Remembered.{right_there}
use Rattle.coordinator.proofs.found.shows_line.Goals as goal

pub returns-in-Line : goal.returns-in-Line
returns-in-Line g c = λ is held checked.
    right_there c.args.passes.now held c.args.owner c.args.turn c.in-Some.entry.now c.in-Some.ensures (sym (ap (λ r. r.turn) c.receipt.ensures) ∙ c.if-receipt-turn.false) checked
