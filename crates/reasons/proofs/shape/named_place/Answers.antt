use Rattle.std.proofs.Common.{sym, ◌∙◌}
use Rattle.reasons.proofs.InLists.{pair_length, items_same}
use Rattle.reasons.proofs.shape.named_place.Goals as goal

pub returns-then-entry-ne2 : goal.returns-then-entry-ne2
returns-then-entry-ne2 c x small same = absurd (c.if-entry-ne2.true (pair_length c.in_ok-entry.entry.now _ _ (items_same _ _ (sym c.in_ok-entry.ensures ∙ same))))
