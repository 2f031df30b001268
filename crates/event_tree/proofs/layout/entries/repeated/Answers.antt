use Rattle.std.proofs.Common.{◌∙◌}
use Rattle.std.proofs.lemmas.List.{take-replicate}
use Rattle.event_tree.proofs.layout.entries.repeated.Goals as goal

pub returns-then-count-le-INLINE : goal.returns-then-count-le-INLINE
returns-then-count-le-INLINE c = c.from_buf_and_len.ensures.items ∙ take-replicate c.args.count 8 c.args.entry c.if-count-le-INLINE.true
