use Rattle.std.proofs.Common.{sym, ◌∙◌}
use Rattle.coordinator.proofs.Remembered.{as_there}
use Rattle.coordinator.proofs.found.is_as_at.Goals as goal

pub returns-then-show_one_line : goal.returns-then-show_one_line
returns-then-show_one_line g c = λ same held right.
    as_there c.args.passes.now held c.args.owner c.in-Some.other.now c.args.entry.now c.in-Some.ensures (sym c.call.ensures ∙ c.same_call.ensures.0 same ∙ c.call-then-show_one_line.ensures)
    (sym c.shown.ensures.shown ∙ c.show_one_line.ensures c.if-show_one_line.true ∙ c.shown-in-Some.ensures.shown) right
