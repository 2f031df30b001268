use Rattle.std.proofs.Common.{ℕ, ◌+◌, length, ap, ◌∙◌}
use Rattle.chains.specs.Elements.{elements}
use Rattle.knows_row.proofs.Lasts.{one_more}
use Rattle.knows_row.proofs.ranks.ranks_past_all.Goals as goal

pub loop-process-preserved : goal.loop-process-preserved
loop-process-preserved c = rw c.in_ok-push.ensures.items
    (one_more (λ (q : ℕ). length (elements c.args.chains.now.accepted q) + 1) c.loop-process.ranks.items c.loop-process.process _ c.loop-process.invariant
    (ap (λ (n : ℕ). n + 1) (c.len.ensures.count ∙ ap (λ xs. length xs) c.elements.ensures)))
